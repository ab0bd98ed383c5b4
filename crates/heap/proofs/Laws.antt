-- What callers lean on.
--     heaped_empty, heaped_none     where no item is in it, or no entry was touched, there is an empty heap
--     heaped_as, heaped_store       what is past the heap does not matter, so that the caller may store there
--     heaped_least, removed_key     the item at the front has the least key, and the one that is removed has
--                                   that key
--     lowered_left, removed_left    no item gets into the heap but the one that is put in
--     room_both, room_beside        different items that are not in the heap have room beside it, and so has
--                                   one more
use Prim.Native.Nat.{ℕ, ◌+◌, ◌≤◌, ◌<◌}
use mathlib.Core.Path.{◌≡◌, refl, sym, ap, ◌∙◌}
use mathlib.Core.List.{List}
use native.Mathlib.Omega.{arith}
use native.Mathlib.Decide.{dec_lt}
use lib.ListN.{length, get_or, set, length-set}
use lib.Seq.{get_or-set_other}
use Rattle.heap.specs.Heaps.{greatest_key, key_of, slot_of, Open, In, item_at, key_at, above, Seated, Heaped, Lowered, Removed}
use Rattle.heap.proofs.Words.{open_or_not}
use Rattle.heap.proofs.Orders.{least_first}
use Rattle.heap.proofs.Swaps.{seat_once, seat_in}
use Rattle.heap.proofs.Pigeons.{Within, Apart, pigeons, joined, joined_first, joined_rest, joined_within, joined_apart}

-- where no item is in it there is an empty heap
pub heaped_empty : {n size : ℕ} {work : List ℕ} → size ≡ 0 → n + n ≤ length work → n ≤ 524288 → ((c : ℕ) → c < n → key_of (get_or work c 0) ≤ greatest_key)
    → ((c : ℕ) → c < n → In work n c → ⊥) → Heaped n size work
heaped_empty {n} {size} {work} none room few small out =
    record {
      seated =
          record {
            room = room;
            few = few;
            fits = omega arith;
            small = small;
            items = λ i h. absurd (omega arith);
            touched = λ i h. absurd (omega arith);
            slots = λ i h. absurd (omega arith);
            agree = λ i h. absurd (omega arith);
            within = λ c h o. absurd (out c h o);
            seats = λ c h o. absurd (out c h o);
          };
      order = λ i p h. absurd (omega arith);
    }

-- so where no entry was touched
pub heaped_none : {n : ℕ} {work : List ℕ} → n + n ≤ length work → n ≤ 524288 → ((c : ℕ) → c < n → key_of (get_or work c 0) ≡ 0) → Heaped n 0 work
heaped_none room few bare = heaped_empty refl room few (λ c h. omega (arith, bare c h)) (λ c h o. omega (arith, bare c h, o.touched))

-- ---- past the heap

module _ {n size : ℕ} {work : List ℕ} (left : List ℕ) (h : Heaped n size work) (long : length left ≡ length work)
    (same : (j : ℕ) → j < n + size → get_or left j 0 ≡ get_or work j 0) where
  -- an item at a seat, and its entry
  same_item : (i : ℕ) → i < size → item_at left n i ≡ item_at work n i
  same_item i l = ap slot_of (same (n + i) (omega arith))

  same_entry : (i : ℕ) → i < size → get_or left (item_at left n i) 0 ≡ get_or work (item_at work n i) 0
  same_entry i l = ap (λ c. get_or left c 0) (same_item i l) ∙ same (item_at work n i) (omega (arith, h.seated.items i l))

  -- an item that is in the heap was there
  same_in : (c : ℕ) → c < n → In left n c → In work n c
  same_in c l o = rw (same c (omega arith)) at o

  -- what is past the heap does not matter
  pub heaped_as : Heaped n size left
  heaped_as =
      let s = h.seated in
      record {
        seated =
            record {
              room = omega (arith, s.room);
              few = s.few;
              fits = s.fits;
              small = λ c l. rw (same c (omega arith)) (s.small c l);
              items = λ i l. rw (same_item i l) (s.items i l);
              touched = λ i l. rw (ap key_of (same_entry i l)) (s.touched i l);
              slots = λ i l. ap slot_of (same_entry i l) ∙ s.slots i l;
              agree = λ i l. ap key_of (same (n + i) (omega arith)) ∙ s.agree i l ∙ sym (ap key_of (same_entry i l));
              within = λ c l o. rw (same c (omega arith)) (s.within c l (same_in c l o));
              seats = λ c l o.
                  rw (same c (omega arith)) (same_item (slot_of (get_or work c 0)) (s.within c l (same_in c l o)) ∙ s.seats c l (same_in c l o));
            };
        order = λ i p l. rw (ap key_of (same_entry i l), ap key_of (same_entry (above i) (omega arith))) (h.order i p l);
      }

-- so the caller may store there
pub heaped_store : {n size : ℕ} (j x : ℕ) {work : List ℕ} → n + size ≤ j → Heaped n size work → Heaped n size (set work j x)
heaped_store j x {work} past h = heaped_as (set work j x) h (length-set work j x) (λ i l. get_or-set_other work j i x 0 (omega arith))

-- ---- the least key

-- the item at the front has it
pub heaped_least : {n size : ℕ} {work : List ℕ} → Heaped n size work → (c : ℕ) → c < n → In work n c → key_at work n 0 ≤ key_of (get_or work c 0)
heaped_least {n} {size} {work} h c l o =
    rw (ap (λ x. key_of (get_or work x 0)) (h.seated.seats c l o)) at (least_first h.order (slot_of (get_or work c 0)) (h.seated.within c l o))

-- and so has the one that is removed
pub removed_key : {n size item : ℕ} {found work : List ℕ} → Removed n size item found work → Heaped n size found → 0 < size
    → key_at found n 0 ≡ key_of (get_or found item 0)
removed_key {n} {size} {item} {found} {work} t h some =
    omega (arith, heaped_least h item t.known t.was, t.least (item_at found n 0) (h.seated.items 0 some) (seat_in h.seated some))

-- ---- no other item gets in

-- an item whose entry stays where it was not in the heap does not get in
left_by_lem : {n word found : ℕ} → ((Open n found → ⊥) → word ≡ found) → Open n word → Open n found
left_by_lem {n} {word} {found} still o = by (open_or_not n found)
  where
    by : Dec (Open n found) → Open n found
    by (yes was) = was
    by (no not) = rw (still not) at o

pub lowered_left : {n size item distance : ℕ} {found work : List ℕ} {now : ℕ} → Lowered n size item distance found work now
    → (c : ℕ) → c < n → (c ≡ item → ⊥) → In work n c → In found n c
lowered_left l c h e o = left_by_lem (l.still c h e) o

pub removed_left : {n size item : ℕ} {found work : List ℕ} → Removed n size item found work → (c : ℕ) → c < n → In work n c → In found n c
removed_left t c h o = left_by_lem (t.still c h) o

-- ---- room beside the heap

module _ {n size k : ℕ} {work : List ℕ} (f : ℕ → ℕ) (s : Seated n size work) (within : Within n k f) (apart : Apart k f)
    (out : (j : ℕ) → j < k → In work n (f j) → ⊥) where
  -- different items that are not in the heap have room beside it
  pub room_both : size + k ≤ n
  room_both =
      pigeons n (size + k) (joined size (item_at work n) f)
      (joined_within s.items within)
      (joined_apart (λ i j. seat_once s) apart (λ i j h l e. out j l (rw e at (seat_in s h))))

-- and so has one more
pub room_beside : {n size k : ℕ} {work : List ℕ} (f : ℕ → ℕ) → Seated n size work → Within n k f → Apart k f → ((j : ℕ) → j < k → In work n (f j) → ⊥)
    → (item : ℕ) → item < n → (In work n item → ⊥) → ((j : ℕ) → j < k → f j ≡ item → ⊥) → size + k < n
room_beside {n} {size} {k} {work} f s within apart out item known new miss =
    let both : size + (k + 1) ≤ n
    = room_both (joined k f more) s (joined_within within (λ i h. known)) (joined_apart apart (λ i j h l e. omega arith) (λ i j h l. miss i h)) (λ j h. by j h (dec_lt j k)) in
    omega (arith, both)
  where
    more : ℕ → ℕ
    more i = item

    by : (j : ℕ) → j < k + 1 → Dec (j < k) → In work n (joined k f more j) → ⊥
    by j h (yes l) = rw (joined_first f more l) (out j l)
    by j h (no l) = let high : k ≤ j = omega arith in rw (joined_rest f more high) new
