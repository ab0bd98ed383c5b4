-- The item at the front removed, w the slice as found: the item leaves, and the last goes to its seat.
--     last_of, filled    the last item, and the slice with it in the seat of the item that has left
--     one-..             there was one item
--     many-..            there were more: the last goes to the front and may sink from there
--     drop_asked, drop_removed, one_done
--         what the code asks and does, in its words
use Prim.Native.Nat.{ℕ, ◌-◌, ◌≤◌, ◌<◌}
use mathlib.Core.Path.{◌≡◌, refl, sym, ap, ◌∙◌}
use mathlib.Core.List.{List}
use native.Mathlib.Omega.{arith}
use native.Mathlib.Decide.{ℕ_discrete}
use lib.ListN.{get_or}
use Rattle.heap.specs.Heaps.{key_of, slot_of, In, item_at, key_at, above, Heaped, Removed}
use Rattle.heap.specs.Sifts.{placed, Sifted, Dropped}
use Rattle.heap.proofs.Words.{placed_long, placed_other}
use Rattle.heap.proofs.Swaps.{seat_once, seat_in}
use Rattle.heap.proofs.Landing.{Around, around_seated, around_key, around_item_key, around_in, around_word_other}
use Rattle.heap.proofs.Laws.{heaped_empty}
use Rattle.heap.proofs.Leaving.{first_of, settled, leaving, cleared, front, Out, removed_by}

-- the last item
abbrev last_of : (n size : ℕ) → (w : List ℕ) → ℕ
last_of n size w = item_at w n (size - 1)

-- the slice with the first having left, and the last put in its seat
abbrev filled : (n size : ℕ) → (w : List ℕ) → List ℕ
filled n size w = placed (leaving n w) n 0 (last_of n size w) (key_at w n (size - 1))

-- ---- one item

module _ {n size : ℕ} {w : List ℕ} (h : Heaped n size w) (some : 0 < size) (one : size ≤ 1) where
  -- none is left
  one_none : (c : ℕ) → c < n → In (leaving n w) n c → ⊥
  one_none c l o =
      let was = (front h some).stood c o in
      let low : slot_of (get_or w c 0) ≡ 0 = omega (arith, h.seated.within c l was) in
      (front h some).another c o (sym (h.seated.seats c l was) ∙ ap (λ i. item_at w n i) low)

  one_sifted : Sifted n (size - 1) (leaving n w) (leaving n w)
  one_sifted =
      record {
        heaped =
            heaped_empty (omega arith) (omega (arith, h.seated.room, (front h some).long)) h.seated.few (λ c l. rw ((front h some).keys c) (h.seated.small c l)) one_none;
        moved =
            record { long = refl; keys = λ c l. refl; stays = λ c l o. o; still = λ c l x. refl; beyond = λ j l. refl };
      }

  one_out : Out n size (first_of n w) w (leaving n w)
  one_out =
      record {
        long = (front h some).long;
        keys = λ c l. (front h some).keys c;
        gone = (front h some).gone;
        slot = (front h some).slot;
        stays = λ c l e o. rw ((front h some).other c e) o;
        still = λ c l x. (front h some).other c (λ e. x (rw e (front h some).was));
        beyond = λ j l. (front h some).other j (omega (arith, (front h some).known));
      }

  one_removed : Removed n size (first_of n w) w (cleared n size (leaving n w))
  one_removed = removed_by h some one_out one_sifted

-- ---- more than one

module _ {n size : ℕ} {w : List ℕ} (h : Heaped n size w) (more : 1 < size) where
  -- the last item
  last_in : In w n (last_of n size w)
  last_in = seat_in h.seated (omega arith)

  last_known : last_of n size w < n
  last_known = h.seated.items (size - 1) (omega arith)

  -- two seats have two items
  two : (i j : ℕ) → i < size → j < size → (i ≡ j → ⊥) → item_at w n i ≡ item_at w n j → ⊥
  two i j l m e x = e (seat_once h.seated l m x)

  some : 0 < size
  some = omega arith

  -- the others are where they were
  many_around : Around n (size - 1) 0 (last_of n size w) (leaving n w)
  many_around =
      let s = h.seated in
      record {
        room = omega (arith, s.room, (front h some).long);
        few = s.few;
        fits = omega (arith, s.fits);
        on = omega arith;
        known = last_known;
        small = λ c l. rw ((front h some).keys c) (s.small c l);
        items = λ i l e. rw ((front h some).items i) (s.items i (omega arith));
        others = λ i l e x. two i (size - 1) (omega arith) (omega arith) (omega arith) (sym ((front h some).items i) ∙ x);
        touched = λ i l e. rw ((front h some).seat_keys i) (s.touched i (omega arith));
        slots = λ i l e.
            rw ((front h some).items i) (ap slot_of ((front h some).other (item_at w n i) (two i 0 (omega arith) some e)) ∙ s.slots i (omega arith));
        agree = λ i l e. ap key_of ((front h some).seats i) ∙ s.agree i (omega arith) ∙ sym ((front h some).seat_keys i);
        within = λ c l e o. (below c l e o).0;
        away = λ c l e o. (below c l e o).1;
        seats = λ c l e o.
            let was = (front h some).stood c o in
            rw ((front h some).other c ((front h some).another c o)) ((front h some).items (slot_of (get_or w c 0)) ∙ s.seats c l was);
      }
    where
      -- an item in the heap but the first and the last stands between them
      below : (c : ℕ) → c < n → (c ≡ last_of n size w → ⊥) → In (leaving n w) n c
          → (slot_of (get_or (leaving n w) c 0) < size - 1) × (slot_of (get_or (leaving n w) c 0) ≡ 0 → ⊥)
      below c l e o =
          let was = (front h some).stood c o in
          let not = (front h some).another c o in
          let seat = h.seated.seats c l was in
          let first : slot_of (get_or w c 0) ≡ 0 → ⊥ = λ x. not (sym seat ∙ ap (λ i. item_at w n i) x) in
          let last : slot_of (get_or w c 0) ≡ size - 1 → ⊥ = λ x. e (sym seat ∙ ap (λ i. item_at w n i) x) in
          rw ((front h some).other c not) (omega (arith, h.seated.within c l was), first)

  -- the last item goes to the front, and may sink from there
  many_dropped : Dropped n (size - 1) 0 (last_of n size w) (key_at w n (size - 1)) (leaving n w)
  many_dropped =
      record {
        known = last_known;
        seated =
            around_seated (leaving n w) (key_at w n (size - 1)) many_around (h.seated.touched (size - 1) (omega arith)) (h.seated.small (last_of n size w) last_known);
        sinking =
            record {
              known = omega arith;
              order = λ i p l e.
                  omega (arith, h.order i p (omega arith), beside i l (omega arith), beside (above i) (omega arith) e);
              span = λ i q p l e. absurd (omega arith);
            };
      }
    where
      beside : (i : ℕ) → i < size - 1 → (i ≡ 0 → ⊥) → key_at (filled n size w) n i ≡ key_at w n i
      beside i l e = around_key (leaving n w) (key_at w n (size - 1)) many_around i l e ∙ (front h some).seat_keys i

  -- what the first and the last item's words become
  many_out : Out n size (first_of n w) w (filled n size w)
  many_out =
      record {
        long = placed_long (leaving n w) n 0 (last_of n size w) (key_at w n (size - 1)) ∙ (front h some).long;
        keys = λ c l. keys c l (ℕ_discrete c (last_of n size w));
        gone = λ o. (front h some).gone (rw (other (first_of n w) (front h some).known apart) at o);
        slot = ap slot_of (other (first_of n w) (front h some).known apart) ∙ (front h some).slot;
        stays = λ c l e o. stays c l e o (ℕ_discrete c (last_of n size w));
        still = λ c l x. other c l (λ e. x (rw e last_in)) ∙ (front h some).other c (λ e. x (rw e (front h some).was));
        beyond = λ j l.
            placed_other (leaving n w) n 0 (last_of n size w) (key_at w n (size - 1)) j (omega (arith, last_known)) (omega arith)
            ∙ (front h some).other j (omega (arith, (front h some).known));
      }
    where
      apart : first_of n w ≡ last_of n size w → ⊥
      apart = two 0 (size - 1) some (omega arith) (omega arith)

      other : (c : ℕ) → c < n → (c ≡ last_of n size w → ⊥)
          → get_or (filled n size w) c 0 ≡ get_or (leaving n w) c 0
      other c l e = around_word_other (leaving n w) (key_at w n (size - 1)) many_around c l e

      keys : (c : ℕ) → c < n → Dec (c ≡ last_of n size w)
          → key_of (get_or (filled n size w) c 0) ≡ key_of (get_or w c 0)
      keys c l (yes e) = rw e (around_item_key (leaving n w) (key_at w n (size - 1)) many_around)
      keys c l (no e) = ap key_of (other c l e) ∙ (front h some).keys c

      stays : (c : ℕ) → c < n → (c ≡ first_of n w → ⊥) → In w n c → Dec (c ≡ last_of n size w)
          → In (filled n size w) n c
      stays c l e o (yes x) = rw x (around_in (leaving n w) (key_at w n (size - 1)) many_around (h.seated.touched (size - 1) (omega arith)))
      stays c l e o (no x) = rw (other c l x ∙ (front h some).other c e) o

  many_removed : {work : List ℕ} → Sifted n (size - 1) (filled n size w) work
      → Removed n size (first_of n w) w (cleared n size work)
  many_removed s = removed_by h some many_out s

-- ---- as the code has it

module _ {n size item last key : ℕ} {w v : List ℕ} (h : Heaped n size w) (more : 1 < size) (first-is : item ≡ first_of n w)
    (last-is : last ≡ last_of n size w) (v-is : v ≡ settled w item) (key-is : key ≡ key_at v n (size - 1)) where
  -- the slice with the item having left, and the last item's key
  slice_is : v ≡ leaving n w
  slice_is = v-is ∙ ap (λ x. settled w x) first-is

  key_was : key ≡ key_at w n (size - 1)
  key_was = key-is ∙ rw slice_is ((front h (omega arith)).seat_keys (size - 1))

  -- what is asked of the last item
  pub drop_asked : Dropped n (size - 1) 0 last key v
  drop_asked = rw (last-is, key_was, slice_is) (many_dropped h more)

  -- what is then done
  pub drop_removed : {work : List ℕ} → Sifted n (size - 1) (placed v n 0 last key) work → Removed n size item w (cleared n size work)
  drop_removed {work} s =
      let told : Sifted n (size - 1) (filled n size w) work = rw (last-is, key_was, slice_is) at s in
      rw first-is (many_removed h more told)

-- what is done with one item
pub one_done : {n size item : ℕ} {w v : List ℕ} → Heaped n size w → 0 < size → size ≤ 1 → item ≡ first_of n w → v ≡ settled w item
    → Removed n size item w (cleared n size v)
one_done {n} {size} {item} {w} {v} h some one first-is v-is = rw (v-is, first-is) (one_removed h some one)
