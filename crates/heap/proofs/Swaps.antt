-- Two seats of the heap swap their items: L before, M after.
--     seat_once, seat_in          an item stands at one seat only, and is in the heap
--     Swapped                     the two words of the heap and the two entries
--     swapped_keys                the keys at the seats are swapped
--     swapped_seated              each item still knows its seat
--     swapped_moved               nothing else has changed
use Prim.Native.Nat.{ℕ, ◌+◌, ◌-◌, ◌≤◌, ◌<◌}
use mathlib.Core.Path.{◌≡◌, sym, ap, ◌∙◌}
use mathlib.Core.List.{List}
use native.Mathlib.Omega.{arith}
use native.Mathlib.Decide.{ℕ_discrete}
use lib.ListN.{length, get_or}
use Rattle.heap.specs.Heaps.{key_of, slot_of, word_of, In, item_at, key_at, Seated}
use Rattle.heap.specs.Sifts.{Moved}
use Rattle.heap.proofs.Words.{key_word, slot_word}
use Rattle.heap.proofs.Orders.{Swap}

module _ {n size : ℕ} {L : List ℕ} (s : Seated n size L) where
  -- an item stands at one seat only
  pub seat_once : {i j : ℕ} → i < size → j < size → item_at L n i ≡ item_at L n j → i ≡ j
  seat_once {i} {j} h l e = sym (s.slots i h) ∙ ap (λ c. slot_of (get_or L c 0)) e ∙ s.slots j l

  -- and is in the heap
  pub seat_in : {i : ℕ} → i < size → In L n (item_at L n i)
  seat_in {i} h = record { touched = s.touched i h; placed = omega (arith, s.slots i h, s.fits) }

-- the items at a and b swapped: the heap's words and the entries
pub record Swapped (n a b : ℕ) (L M : List ℕ) : Type 0 where
  pub long : length M ≡ length L
  pub first : item_at M n a ≡ item_at L n b
  pub second : item_at M n b ≡ item_at L n a
  pub word_first : get_or M (item_at L n a) 0 ≡ word_of (key_at L n a) b
  pub word_second : get_or M (item_at L n b) 0 ≡ word_of (key_at L n b) a
  pub agree_first : key_of (get_or M (n + a) 0) ≡ key_at L n b
  pub agree_second : key_of (get_or M (n + b) 0) ≡ key_at L n a
  pub seats : (i : ℕ) → (i ≡ a → ⊥) → (i ≡ b → ⊥) → get_or M (n + i) 0 ≡ get_or L (n + i) 0
  pub words : (c : ℕ) → c < n → (c ≡ item_at L n a → ⊥) → (c ≡ item_at L n b → ⊥) → get_or M c 0 ≡ get_or L c 0

module _ {n size a b : ℕ} {L M : List ℕ} (s : Seated n size L) (ha : a < size) (hb : b < size) (w : Swapped n a b L M) where
  -- the item at another seat
  other_item : (i : ℕ) → (i ≡ a → ⊥) → (i ≡ b → ⊥) → item_at M n i ≡ item_at L n i
  other_item i e f = ap slot_of (w.seats i e f)

  -- the entry of the first item, and of the second
  first_key : key_of (get_or M (item_at L n a) 0) ≡ key_at L n a
  first_key = ap key_of w.word_first ∙ key_word (key_at L n a) b (omega (arith, s.fits, s.few))

  first_slot : slot_of (get_or M (item_at L n a) 0) ≡ b
  first_slot = ap slot_of w.word_first ∙ slot_word (key_at L n a) b (omega (arith, s.fits, s.few))

  second_key : key_of (get_or M (item_at L n b) 0) ≡ key_at L n b
  second_key = ap key_of w.word_second ∙ key_word (key_at L n b) a (omega (arith, s.fits, s.few))

  second_slot : slot_of (get_or M (item_at L n b) 0) ≡ a
  second_slot = ap slot_of w.word_second ∙ slot_word (key_at L n b) a (omega (arith, s.fits, s.few))

  -- every item keeps its key
  pub key_kept : (c : ℕ) → c < n → key_of (get_or M c 0) ≡ key_of (get_or L c 0)
  key_kept c h = by (ℕ_discrete c (item_at L n a)) (ℕ_discrete c (item_at L n b))
    where
      by : Dec (c ≡ item_at L n a) → Dec (c ≡ item_at L n b) → key_of (get_or M c 0) ≡ key_of (get_or L c 0)
      by (yes e) f = rw e first_key
      by (no e) (yes f) = rw f second_key
      by (no e) (no f) = ap key_of (w.words c h e f)

  -- an item in the heap stays in it
  pub open_kept : (c : ℕ) → c < n → In L n c → In M n c
  open_kept c h o = by (ℕ_discrete c (item_at L n a)) (ℕ_discrete c (item_at L n b))
    where
      by : Dec (c ≡ item_at L n a) → Dec (c ≡ item_at L n b) → In M n c
      by (yes e) f = rw e (record { touched = omega (arith, first_key, s.touched a ha); placed = omega (arith, first_slot, s.fits) })
      by (no e) (yes f) = rw f (record { touched = omega (arith, second_key, s.touched b hb); placed = omega (arith, second_slot, s.fits) })
      by (no e) (no f) = rw (w.words c h e f) o

  -- the keys at the two seats are swapped
  pub swapped_keys : Swap size a b (key_at L n) (key_at M n)
  swapped_keys =
      record {
        first = ap (λ c. key_of (get_or M c 0)) w.first ∙ second_key;
        second = ap (λ c. key_of (get_or M c 0)) w.second ∙ first_key;
        others = λ i h e f. ap (λ c. key_of (get_or M c 0)) (other_item i e f) ∙ key_kept (item_at L n i) (s.items i h);
      }

  -- the item at a seat is known
  item_known : (i : ℕ) → i < size → item_at M n i < n
  item_known i h = by (ℕ_discrete i a) (ℕ_discrete i b)
    where
      by : Dec (i ≡ a) → Dec (i ≡ b) → item_at M n i < n
      by (yes e) f = rw (e, w.first) (s.items b hb)
      by (no e) (yes f) = rw (f, w.second) (s.items a ha)
      by (no e) (no f) = rw (other_item i e f) (s.items i h)

  -- touched
  item_touched : (i : ℕ) → i < size → 0 < key_at M n i
  item_touched i h = by (ℕ_discrete i a) (ℕ_discrete i b)
    where
      by : Dec (i ≡ a) → Dec (i ≡ b) → 0 < key_at M n i
      by (yes e) f = rw (e, swapped_keys.first) (s.touched b hb)
      by (no e) (yes f) = rw (f, swapped_keys.second) (s.touched a ha)
      by (no e) (no f) = rw (swapped_keys.others i h e f) (s.touched i h)

  -- and knows its seat
  item_slot : (i : ℕ) → i < size → slot_of (get_or M (item_at M n i) 0) ≡ i
  item_slot i h = by (ℕ_discrete i a) (ℕ_discrete i b)
    where
      by : Dec (i ≡ a) → Dec (i ≡ b) → slot_of (get_or M (item_at M n i) 0) ≡ i
      by (yes e) f = rw (e, w.first) second_slot
      by (no e) (yes f) = rw (f, w.second) first_slot
      by (no e) (no f) =
          rw (other_item i e f) (ap slot_of (w.words (item_at L n i) (s.items i h) (λ x. e (seat_once s h ha x)) (λ x. f (seat_once s h hb x))) ∙ s.slots i h)

  -- a seat has the key of its item
  item_agree : (i : ℕ) → i < size → key_of (get_or M (n + i) 0) ≡ key_at M n i
  item_agree i h = by (ℕ_discrete i a) (ℕ_discrete i b)
    where
      by : Dec (i ≡ a) → Dec (i ≡ b) → key_of (get_or M (n + i) 0) ≡ key_at M n i
      by (yes e) f = rw e (w.agree_first ∙ sym swapped_keys.first)
      by (no e) (yes f) = rw f (w.agree_second ∙ sym swapped_keys.second)
      by (no e) (no f) = ap key_of (w.seats i e f) ∙ s.agree i h ∙ sym (swapped_keys.others i h e f)

  -- an item in the heap stands at its slot
  item_seat : (c : ℕ) → c < n → In M n c → (slot_of (get_or M c 0) < size) × (item_at M n (slot_of (get_or M c 0)) ≡ c)
  item_seat c h o = by (ℕ_discrete c (item_at L n a)) (ℕ_discrete c (item_at L n b))
    where
      by : Dec (c ≡ item_at L n a) → Dec (c ≡ item_at L n b) → (slot_of (get_or M c 0) < size) × (item_at M n (slot_of (get_or M c 0)) ≡ c)
      by (yes e) f = rw (e, first_slot) (hb, w.second)
      by (no e) (yes f) = rw (f, second_slot) (ha, w.first)
      by (no e) (no f) =
          let same = w.words c h e f in
          let was : In L n c = rw same at o in
          let seat = s.seats c h was in
          rw same (s.within c h was, other_item (slot_of (get_or L c 0)) (λ x. e (sym seat ∙ ap (λ i. item_at L n i) x)) (λ x. f (sym seat ∙ ap (λ i. item_at L n i) x)) ∙ seat)

  -- each item still knows its seat
  pub swapped_seated : Seated n size M
  swapped_seated =
      record {
        room = omega (arith, s.room, w.long);
        few = s.few;
        fits = s.fits;
        small = λ c h. omega (arith, key_kept c h, s.small c h);
        items = item_known;
        touched = item_touched;
        slots = item_slot;
        agree = item_agree;
        within = λ c h o. (item_seat c h o).0;
        seats = λ c h o. (item_seat c h o).1;
      }

  -- nothing else has changed
  pub swapped_moved : {F : List ℕ} → Moved n size F L → Moved n size F M
  swapped_moved {F} m =
      record {
        long = w.long ∙ m.long;
        keys = λ c h. key_kept c h ∙ m.keys c h;
        stays = λ c h o. open_kept c h (m.stays c h o);
        still = λ c h x. w.words c h (λ e. unmoved c h x a ha e) (λ e. unmoved c h x b hb e) ∙ m.still c h x;
        beyond = λ j h. beyond j h ∙ m.beyond j h;
      }
    where
      unmoved : (c : ℕ) → c < n → (In F n c → ⊥) → (i : ℕ) → i < size → c ≡ item_at L n i → ⊥
      unmoved c h x i l e = x (rw (m.still c h x) at (subst_in c i e (seat_in s l)))
        where
          subst_in : (c i : ℕ) → c ≡ item_at L n i → In L n (item_at L n i) → In L n c
          subst_in c i e o = rw e o

      beyond : (j : ℕ) → n + size ≤ j → get_or M j 0 ≡ get_or L j 0
      beyond j h = let seat : j ≡ n + (j - n) = omega arith in rw seat (w.seats (j - n) (omega arith) (omega arith))
