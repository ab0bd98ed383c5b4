-- An item put at a seat of the heap: L is the slice with the item there.
--     Around                      every seat but one has its item
--     around_seated               with the item there all are
--     around_key, around_own      the keys beside it, and its own
--     around_in                   the item is in the heap
use Prim.Native.Nat.{ℕ, ◌+◌, ◌≤◌, ◌<◌}
use mathlib.Core.Path.{◌≡◌, sym, ap, ◌∙◌}
use mathlib.Core.List.{List}
use native.Mathlib.Omega.{arith}
use native.Mathlib.Decide.{ℕ_discrete}
use lib.ListN.{length, get_or}
use Rattle.heap.specs.Heaps.{greatest_key, key_of, slot_of, word_of, In, item_at, key_at, Seated}
use Rattle.heap.specs.Sifts.{placed}
use Rattle.heap.proofs.Words.{key_word, slot_word, placed_long, placed_item, placed_agree, placed_word, placed_other}

-- every seat but one has its item, with items other than the one that is to be put there
pub record Around (n size at item : ℕ) (work : List ℕ) : Type 0 where
  pub room : n + n ≤ length work
  pub few : n ≤ 524288
  pub fits : size ≤ n
  pub on : at < size
  pub known : item < n
  pub small : (c : ℕ) → c < n → key_of (get_or work c 0) ≤ greatest_key
  pub items : (i : ℕ) → i < size → (i ≡ at → ⊥) → item_at work n i < n
  pub others : (i : ℕ) → i < size → (i ≡ at → ⊥) → item_at work n i ≡ item → ⊥
  pub touched : (i : ℕ) → i < size → (i ≡ at → ⊥) → 0 < key_at work n i
  pub slots : (i : ℕ) → i < size → (i ≡ at → ⊥) → slot_of (get_or work (item_at work n i) 0) ≡ i
  pub agree : (i : ℕ) → i < size → (i ≡ at → ⊥) → key_of (get_or work (n + i) 0) ≡ key_at work n i
  pub within : (c : ℕ) → c < n → (c ≡ item → ⊥) → In work n c → slot_of (get_or work c 0) < size
  pub away : (c : ℕ) → c < n → (c ≡ item → ⊥) → In work n c → slot_of (get_or work c 0) ≡ at → ⊥
  pub seats : (c : ℕ) → c < n → (c ≡ item → ⊥) → In work n c → item_at work n (slot_of (get_or work c 0)) ≡ c

module _ {n size at item : ℕ} (work : List ℕ) (key : ℕ) (a : Around n size at item work) where
  -- the item's entry
  around_word : get_or (placed work n at item key) item 0 ≡ word_of key at
  around_word = placed_word work n at item key a.known (omega (arith, a.room))

  pub around_item_key : key_of (get_or (placed work n at item key) item 0) ≡ key
  around_item_key = ap key_of around_word ∙ key_word key at (omega (arith, a.few, a.fits, a.on))

  around_item_slot : slot_of (get_or (placed work n at item key) item 0) ≡ at
  around_item_slot = ap slot_of around_word ∙ slot_word key at (omega (arith, a.few, a.fits, a.on))

  -- the item is there
  around_item : item_at (placed work n at item key) n at ≡ item
  around_item = placed_item work n at item key (omega (arith, a.room, a.fits, a.on)) (omega (arith, a.known, a.few))

  -- with its key
  pub around_own : key_at (placed work n at item key) n at ≡ key
  around_own = ap (λ c. key_of (get_or (placed work n at item key) c 0)) around_item ∙ around_item_key

  -- the item is in the heap
  pub around_in : 0 < key → In (placed work n at item key) n item
  around_in p = record { touched = omega (arith, around_item_key); placed = omega (arith, around_item_slot, a.on, a.fits) }

  -- another entry is as it was
  pub around_word_other : (c : ℕ) → c < n → (c ≡ item → ⊥) → get_or (placed work n at item key) c 0 ≡ get_or work c 0
  around_word_other c h e = placed_other work n at item key c e (omega arith)

  -- and so is another seat
  around_seat : (i : ℕ) → (i ≡ at → ⊥) → get_or (placed work n at item key) (n + i) 0 ≡ get_or work (n + i) 0
  around_seat i e = placed_other work n at item key (n + i) (omega (arith, a.known)) (omega arith)

  -- with its item
  around_item_other : (i : ℕ) → (i ≡ at → ⊥) → item_at (placed work n at item key) n i ≡ item_at work n i
  around_item_other i e = ap slot_of (around_seat i e)

  -- with its entry
  around_entry : (i : ℕ) → i < size → (i ≡ at → ⊥) → get_or (placed work n at item key) (item_at (placed work n at item key) n i) 0 ≡ get_or work (item_at work n i) 0
  around_entry i h e =
      ap (λ c. get_or (placed work n at item key) c 0) (around_item_other i e)
      ∙ around_word_other (item_at work n i) (a.items i h e) (a.others i h e)

  -- and its key
  pub around_key : (i : ℕ) → i < size → (i ≡ at → ⊥) → key_at (placed work n at item key) n i ≡ key_at work n i
  around_key i h e = ap key_of (around_entry i h e)

  -- all seats have their items
  pub around_seated : 0 < key → key ≤ greatest_key → Seated n size (placed work n at item key)
  around_seated p small =
      record {
        room = omega (arith, a.room, placed_long work n at item key);
        few = a.few;
        fits = a.fits;
        small = λ c h. keys c h (ℕ_discrete c item);
        items = λ i h. items i h (ℕ_discrete i at);
        touched = λ i h. touched i h (ℕ_discrete i at);
        slots = λ i h. slots i h (ℕ_discrete i at);
        agree = λ i h. agree i h (ℕ_discrete i at);
        within = λ c h o. (seat c h o (ℕ_discrete c item)).0;
        seats = λ c h o. (seat c h o (ℕ_discrete c item)).1;
      }
    where
      keys : (c : ℕ) → c < n → Dec (c ≡ item) → key_of (get_or (placed work n at item key) c 0) ≤ greatest_key
      keys c h (yes e) = rw (e, around_item_key) small
      keys c h (no e) = rw (around_word_other c h e) (a.small c h)

      items : (i : ℕ) → i < size → Dec (i ≡ at) → item_at (placed work n at item key) n i < n
      items i h (yes e) = rw (e, around_item) a.known
      items i h (no e) = rw (around_item_other i e) (a.items i h e)

      touched : (i : ℕ) → i < size → Dec (i ≡ at) → 0 < key_at (placed work n at item key) n i
      touched i h (yes e) = rw (e, around_own) p
      touched i h (no e) = rw (around_key i h e) (a.touched i h e)

      slots : (i : ℕ) → i < size → Dec (i ≡ at) → slot_of (get_or (placed work n at item key) (item_at (placed work n at item key) n i) 0) ≡ i
      slots i h (yes e) = rw (e, around_item) around_item_slot
      slots i h (no e) = ap slot_of (around_entry i h e) ∙ a.slots i h e

      agree : (i : ℕ) → i < size → Dec (i ≡ at) → key_of (get_or (placed work n at item key) (n + i) 0) ≡ key_at (placed work n at item key) n i
      agree i h (yes e) =
          rw e (placed_agree work n at item key (omega (arith, a.room, a.fits, a.on)) (omega (arith, a.known, a.few)) ∙ sym around_own)
      agree i h (no e) = ap key_of (around_seat i e) ∙ a.agree i h e ∙ sym (around_key i h e)

      seat : (c : ℕ) → c < n → In (placed work n at item key) n c → Dec (c ≡ item)
          → (slot_of (get_or (placed work n at item key) c 0) < size) × (item_at (placed work n at item key) n (slot_of (get_or (placed work n at item key) c 0)) ≡ c)
      seat c h o (yes e) = rw (e, around_item_slot) (a.on, around_item)
      seat c h o (no e) =
          let same = around_word_other c h e in
          let was : In work n c = rw same at o in
          rw same (a.within c h e was, around_item_other (slot_of (get_or work c 0)) (a.away c h e was) ∙ a.seats c h e was)
