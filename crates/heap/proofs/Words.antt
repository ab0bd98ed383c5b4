-- Words of the heap, and stores to them.
--     key_word, slot_word          the key and the slot of an entry made of the two
--     word_key                     of two words the lesser has no greater key
--     open_or_not                  an entry's item is in the heap or not
--     placed_long, placed_item, placed_agree, placed_word, placed_other
--         the slice with an item put at a seat, word by word
use Prim.Native.Nat.{ℕ, ◌+◌, ◌≤◌, ◌<◌}
use mathlib.Core.Path.{◌≡◌, ap, ◌∙◌}
use mathlib.Core.List.{List}
use native.Mathlib.Omega.{arith}
use native.Mathlib.Decide.{dec_lt}
use lib.ListN.{length, get_or, set, length-set}
use lib.Seq.{get_or-set_same, get_or-set_other}
use lib.Arith.{digits_div, digits_mod}
use Rattle.heap.specs.Heaps.{key_of, slot_of, word_of, Open, item_at}
use Rattle.heap.specs.Sifts.{placed}

-- the key of an entry
pub key_word : (key slot : ℕ) → slot < 1048576 → key_of (word_of key slot) ≡ key
unfolding key_of word_of
key_word key slot h = digits_div key h

-- its slot
pub slot_word : (key slot : ℕ) → slot < 1048576 → slot_of (word_of key slot) ≡ slot
unfolding slot_of word_of
slot_word key slot h = digits_mod key h

-- of two words the lesser has no greater key
pub word_key : (a b : ℕ) → a ≤ b → key_of a ≤ key_of b
unfolding key_of
word_key a b h = omega arith

-- an entry's item is in the heap or not
pub open_or_not : (n word : ℕ) → Dec (Open n word)
open_or_not n word = by (dec_lt 0 (key_of word)) (dec_lt (slot_of word) n)
  where
    by : Dec (0 < key_of word) → Dec (slot_of word < n) → Dec (Open n word)
    by (yes t) (yes p) = yes (record { touched = t; placed = p })
    by (yes t) (no p) = no (λ o. p o.placed)
    by (no t) p = no (λ o. t o.touched)

-- ---- an item put at a seat

module _ (work : List ℕ) (n at item key : ℕ) where
  -- the slice is as long
  pub placed_long : length (placed work n at item key) ≡ length work
  unfolding placed
  placed_long = simp length-set

  -- the item is at the seat
  placed_seat : n + at < length work → get_or (placed work n at item key) (n + at) 0 ≡ word_of key item
  unfolding placed
  placed_seat h = get_or-set_same (set work item (word_of key at)) (n + at) (word_of key item) 0 (simp length-set (omega arith))

  pub placed_item : n + at < length work → item < 1048576 → item_at (placed work n at item key) n at ≡ item
  placed_item h l = ap slot_of (placed_seat h) ∙ slot_word key item l

  -- with its key
  pub placed_agree : n + at < length work → item < 1048576 → key_of (get_or (placed work n at item key) (n + at) 0) ≡ key
  placed_agree h l = ap key_of (placed_seat h) ∙ key_word key item l

  -- its entry has the key and the seat
  pub placed_word : item < n → n ≤ length work → get_or (placed work n at item key) item 0 ≡ word_of key at
  unfolding placed
  placed_word h l =
      get_or-set_other (set work item (word_of key at)) (n + at) item (word_of key item) 0 (omega arith) ∙ get_or-set_same work item (word_of key at) 0 (omega arith)

  -- another word is as it was
  pub placed_other : (j : ℕ) → (j ≡ item → ⊥) → (j ≡ n + at → ⊥) → get_or (placed work n at item key) j 0 ≡ get_or work j 0
  unfolding placed
  placed_other j e f = get_or-set_other (set work item (word_of key at)) (n + at) j (word_of key item) 0 f ∙ get_or-set_other work item j (word_of key at) 0 e
