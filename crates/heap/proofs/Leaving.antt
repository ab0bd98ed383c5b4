-- The item at the front leaves: its slot is the one of items that have left, and nothing else changes.
--     first_of, settled, leaving    the item at the front, an item that has left, and so the first
--     cleared                       the slice that is left, with the word of the last seat cleared
--     FrontLeft, front              what the first item is and was, and the slice with it having left
--     Out, removed_by               an item is out of the heap, and the others find their seats
use Prim.Native.Nat.{ℕ, ◌+◌, ◌-◌, ◌≤◌, ◌<◌}
use mathlib.Core.Path.{◌≡◌, ap, ◌∙◌}
use mathlib.Core.List.{List}
use native.Mathlib.Nat.{le_refl}
use native.Mathlib.Omega.{arith}
use native.Mathlib.Decide.{ℕ_discrete}
use lib.ListN.{length, get_or, set, length-set}
use lib.Seq.{get_or-set_same, get_or-set_other}
use Rattle.heap.specs.Heaps.{key_of, slot_of, word_of, In, item_at, key_at, Heaped, Removed}
use Rattle.heap.specs.Sifts.{Sifted}
use Rattle.heap.proofs.Words.{key_word, slot_word}
use Rattle.heap.proofs.Swaps.{seat_in}
use Rattle.heap.proofs.Laws.{heaped_store, heaped_least}

-- the item at the front
abbrev pub first_of : (n : ℕ) → (w : List ℕ) → ℕ
first_of n w = item_at w n 0

-- an item that has left, with its key
abbrev pub settled : (w : List ℕ) → (item : ℕ) → List ℕ
settled w item = set w item (word_of (key_of (get_or w item 0)) 1048575)

-- so the first
abbrev pub leaving : (n : ℕ) → (w : List ℕ) → List ℕ
leaving n w = settled w (first_of n w)

-- and in the end the word of the last seat cleared
abbrev pub cleared : (n size : ℕ) → (w : List ℕ) → List ℕ
cleared n size w = set w (n + (size - 1)) 0

-- ---- the slice with the first item having left

-- the first item was in the heap and is no more; another word, every key and every seat is as it was
pub record FrontLeft (n : ℕ) (w : List ℕ) : Type 0 where
  pub known : first_of n w < n
  pub was : In w n (first_of n w)
  pub slot : slot_of (get_or (leaving n w) (first_of n w) 0) ≡ 1048575
  pub gone : In (leaving n w) n (first_of n w) → ⊥
  pub another : (c : ℕ) → In (leaving n w) n c → c ≡ first_of n w → ⊥
  pub stood : (c : ℕ) → In (leaving n w) n c → In w n c
  pub other : (j : ℕ) → (j ≡ first_of n w → ⊥) → get_or (leaving n w) j 0 ≡ get_or w j 0
  pub keys : (c : ℕ) → key_of (get_or (leaving n w) c 0) ≡ key_of (get_or w c 0)
  pub seats : (i : ℕ) → get_or (leaving n w) (n + i) 0 ≡ get_or w (n + i) 0
  pub items : (i : ℕ) → item_at (leaving n w) n i ≡ item_at w n i
  pub seat_keys : (i : ℕ) → key_at (leaving n w) n i ≡ key_at w n i
  pub long : length (leaving n w) ≡ length w

module _ {n size : ℕ} {w : List ℕ} (h : Heaped n size w) (some : 0 < size) where
  -- the first item is known
  front_known : first_of n w < n
  front_known = h.seated.items 0 some

  -- its word once it has left
  front_word : get_or (leaving n w) (first_of n w) 0 ≡ word_of (key_at w n 0) 1048575
  front_word = get_or-set_same w (first_of n w) (word_of (key_at w n 0) 1048575) 0 (omega (arith, front_known, h.seated.room))

  front_slot : slot_of (get_or (leaving n w) (first_of n w) 0) ≡ 1048575
  front_slot = ap slot_of front_word ∙ slot_word (key_at w n 0) 1048575 (omega arith)

  -- another word is as it was
  front_other : (j : ℕ) → (j ≡ first_of n w → ⊥) → get_or (leaving n w) j 0 ≡ get_or w j 0
  front_other j e = get_or-set_other w (first_of n w) j (word_of (key_at w n 0) 1048575) 0 e

  -- keys are as they were
  front_keys : (c : ℕ) → key_of (get_or (leaving n w) c 0) ≡ key_of (get_or w c 0)
  front_keys c = by (ℕ_discrete c (first_of n w))
    where
      by : Dec (c ≡ first_of n w) → key_of (get_or (leaving n w) c 0) ≡ key_of (get_or w c 0)
      by (yes e) = rw e (ap key_of front_word ∙ key_word (key_at w n 0) 1048575 (omega arith))
      by (no e) = ap key_of (front_other c e)

  -- seats are as they were
  front_seats : (i : ℕ) → get_or (leaving n w) (n + i) 0 ≡ get_or w (n + i) 0
  front_seats i = front_other (n + i) (omega (arith, front_known))

  -- it is not in the heap, so that an item in the heap is another
  front_gone : In (leaving n w) n (first_of n w) → ⊥
  front_gone o = omega (arith, o.placed, front_slot, h.seated.few)

  front_another : (c : ℕ) → In (leaving n w) n c → c ≡ first_of n w → ⊥
  front_another c o e = front_gone (rw e at o)

  -- all of it
  pub front : FrontLeft n w
  front =
      record {
        known = front_known;
        was = seat_in h.seated some;
        slot = front_slot;
        gone = front_gone;
        another = front_another;
        stood = λ c o. rw (front_other c (front_another c o)) at o;
        other = front_other;
        keys = front_keys;
        seats = front_seats;
        items = λ i. ap slot_of (front_seats i);
        seat_keys = λ i. ap (λ c. key_of (get_or (leaving n w) c 0)) (ap slot_of (front_seats i)) ∙ front_keys (item_at w n i);
        long = length-set w (first_of n w) (word_of (key_at w n 0) 1048575);
      }

-- ---- what is done in all

-- an item is out of the heap, and the rest as found
pub record Out (n size item : ℕ) (w left : List ℕ) : Type 0 where
  pub long : length left ≡ length w
  pub keys : (c : ℕ) → c < n → key_of (get_or left c 0) ≡ key_of (get_or w c 0)
  pub gone : In left n item → ⊥
  pub slot : slot_of (get_or left item 0) ≡ 1048575
  pub stays : (c : ℕ) → c < n → (c ≡ item → ⊥) → In w n c → In left n c
  pub still : (c : ℕ) → c < n → (In w n c → ⊥) → get_or left c 0 ≡ get_or w c 0
  pub beyond : (j : ℕ) → n + (size - 1) ≤ j → get_or left j 0 ≡ get_or w j 0

-- the others find their seats, and the word past them is cleared
pub removed_by : {n size : ℕ} {w left work : List ℕ} → Heaped n size w → 0 < size → Out n size (first_of n w) w left → Sifted n (size - 1) left work
    → Removed n size (first_of n w) w (cleared n size work)
removed_by {n} {size} {w} {left} {work} h some o s =
    record {
      heaped = heaped_store (n + (size - 1)) 0 (le_refl (n + (size - 1))) s.heaped;
      long = length-set work (n + (size - 1)) 0 ∙ long;
      known = (front h some).known;
      was = (front h some).was;
      least = heaped_least h;
      gone = λ x. o.gone (rw first at x);
      slot = ap slot_of first ∙ o.slot;
      keys = λ c l. ap key_of (entry c l) ∙ s.moved.keys c l ∙ o.keys c l;
      stays = λ c l e x. rw (entry c l) (s.moved.stays c l (o.stays c l e x));
      still = λ c l x.
          let same = o.still c l x in
          entry c l ∙ s.moved.still c l (λ y. x (rw same at y)) ∙ same;
      empty = get_or-set_same work (n + (size - 1)) 0 0 (omega (arith, long, h.seated.room, h.seated.fits));
      beyond = λ j l.
          get_or-set_other work (n + (size - 1)) j 0 0 (omega arith) ∙ s.moved.beyond j (omega arith) ∙ o.beyond j (omega arith);
    }
  where
    long : length work ≡ length w
    long = s.moved.long ∙ o.long

    entry : (c : ℕ) → c < n → get_or (cleared n size work) c 0 ≡ get_or work c 0
    entry c l = get_or-set_other work (n + (size - 1)) c 0 0 (omega arith)

    -- the first item's word
    first : get_or (cleared n size work) (first_of n w) 0 ≡ get_or left (first_of n w) 0
    first = let known = (front h some).known in entry (first_of n w) known ∙ s.moved.still (first_of n w) known o.gone
