-- An item put in, or its distance lowered where it stands: w is the slice as found.
--     room_for                         there is room for an item that is not in the heap
--     new_lifted, new_lowered          an item that was never touched
--     better_lifted, better_lowered    one in the heap with a greater key
use Prim.Native.Nat.{ℕ, ◌+◌, ◌≤◌, ◌<◌}
use mathlib.Core.Path.{◌≡◌, refl, sym, ap, ◌∙◌}
use mathlib.Core.List.{List}
use native.Mathlib.Omega.{arith}
use native.Mathlib.Decide.{ℕ_discrete}
use lib.ListN.{get_or}
use Rattle.heap.specs.Heaps.{greatest_key, key_of, slot_of, In, item_at, key_at, above, Seated, Heaped, Lowered}
use Rattle.heap.specs.Sifts.{placed, Sifted, Rising, Lifted}
use Rattle.heap.proofs.Words.{placed_long, placed_other}
use Rattle.heap.proofs.Swaps.{seat_once, seat_in}
use Rattle.heap.proofs.Landing.{Around, around_seated, around_key, around_own, around_item_key, around_in, around_word_other}
use Rattle.heap.proofs.Laws.{room_both}

-- there is room for an item that is not in the heap
pub room_for : {n size : ℕ} {w : List ℕ} {item : ℕ} → Seated n size w → item < n → (In w n item → ⊥) → size < n
room_for {n} {size} {w} {item} s known out =
    let both : size + 1 ≤ n = room_both (λ i. item) s (λ i h. known) (λ i j h l e. omega arith) (λ j h. out) in omega (arith, both)

-- ---- what an item that is put at a seat changes

module _ {n now at item : ℕ} (distance : ℕ) {w work : List ℕ} (a : Around n now at item w) (s : Sifted n now (placed w n at item (distance + 1)) work) where
  -- the item is in the heap with the distance
  set_in : In work n item
  set_in = s.moved.stays item a.known (around_in w (distance + 1) a (omega arith))

  set_key : key_of (get_or work item 0) ≡ distance + 1
  set_key = s.moved.keys item a.known ∙ around_item_key w (distance + 1) a

  -- the rest is as it was
  lowered_by : {size : ℕ} → (key_of (get_or w item 0) ≡ 0 → now ≡ size + 1) → (In w n item → now ≡ size)
      → (0 < key_of (get_or w item 0) → (In w n item → key_of (get_or w item 0) ≤ distance + 1) → ⊥) → Lowered n size item distance w work now
  lowered_by new better same =
      record {
        heaped = s.heaped;
        long = s.moved.long ∙ placed_long w n at item (distance + 1);
        new = λ e. (new e, set_in, set_key);
        better = λ o h. (better o, set_in, set_key);
        same = λ p h. absurd (same p h);
        keys = λ c h e. s.moved.keys c h ∙ ap key_of (around_word_other w (distance + 1) a c h e);
        stays = λ c h e o. s.moved.stays c h (rw (around_word_other w (distance + 1) a c h e) o);
        still = λ c h e x.
            s.moved.still c h (λ o. x (rw (around_word_other w (distance + 1) a c h e) at o)) ∙ around_word_other w (distance + 1) a c h e;
        beyond = λ j h.
            s.moved.beyond j h ∙ placed_other w n at item (distance + 1) j (omega (arith, a.known)) (omega (arith, a.on));
      }

-- ---- an item that was never touched

module _ {n size item : ℕ} (distance : ℕ) {w : List ℕ} (h : Heaped n size w) (known : item < n) (new : key_of (get_or w item 0) ≡ 0) where
  -- it is not in the heap
  new_out : In w n item → ⊥
  new_out o = omega (arith, o.touched)

  -- nor at any seat
  new_other : (i : ℕ) → i < size → item_at w n i ≡ item → ⊥
  new_other i l e = new_out (rw e at (seat_in h.seated l))

  -- it comes after the last
  new_around : Around n (size + 1) size item w
  new_around =
      let s = h.seated in
      record {
        room = s.room;
        few = s.few;
        fits = omega (arith, room_for s known new_out);
        on = omega arith;
        known = known;
        small = s.small;
        items = λ i l e. s.items i (omega arith);
        others = λ i l e. new_other i (omega arith);
        touched = λ i l e. s.touched i (omega arith);
        slots = λ i l e. s.slots i (omega arith);
        agree = λ i l e. s.agree i (omega arith);
        within = λ c l e o. omega (arith, s.within c l o);
        away = λ c l e o. omega (arith, s.within c l o);
        seats = λ c l e o. s.seats c l o;
      }

  -- and may rise from there
  pub new_lifted : distance < greatest_key → Lifted n (size + 1) size item (distance + 1) w
  new_lifted small =
      record {
        known = known;
        seated = around_seated w (distance + 1) new_around (omega arith) (omega arith);
        rising =
            record {
              known = omega arith;
              order = λ i p l e.
                  omega (arith, h.order i p (omega arith), around_key w (distance + 1) new_around i l e, around_key w (distance + 1) new_around (above i) (omega arith) (omega arith));
              span = λ i q p l e. absurd (omega arith);
            };
      }

  pub new_lowered : {work : List ℕ} → Sifted n (size + 1) (placed w n size item (distance + 1)) work → Lowered n size item distance w work (size + 1)
  new_lowered s = lowered_by distance new_around s (λ e. refl) (λ o. absurd (new_out o)) (λ p x. omega arith)

-- ---- an item in the heap with a greater key

module _ {n size item : ℕ} (distance : ℕ) {w : List ℕ} (h : Heaped n size w) (known : item < n) (o : In w n item)
    (greater : distance + 1 < key_of (get_or w item 0)) where
  -- the others are where they were
  better_around : Around n size (slot_of (get_or w item 0)) item w
  better_around =
      let s = h.seated in
      let seat = s.seats item known o in
      record {
        room = s.room;
        few = s.few;
        fits = s.fits;
        on = s.within item known o;
        known = known;
        small = s.small;
        items = λ i l e. s.items i l;
        others = λ i l e x. e (seat_once s l (s.within item known o) (x ∙ sym seat));
        touched = λ i l e. s.touched i l;
        slots = λ i l e. s.slots i l;
        agree = λ i l e. s.agree i l;
        within = λ c l e p. s.within c l p;
        away = λ c l e p x. e (sym (s.seats c l p) ∙ ap (λ i. item_at w n i) x ∙ seat);
        seats = λ c l e p. s.seats c l p;
      }

  -- its key was what it is at its seat
  own_was : key_at w n (slot_of (get_or w item 0)) ≡ key_of (get_or w item 0)
  own_was = ap (λ c. key_of (get_or w c 0)) (h.seated.seats item known o)

  -- and it may rise
  better_rising : Rising size (slot_of (get_or w item 0)) (key_at (placed w n (slot_of (get_or w item 0)) item (distance + 1)) n)
  better_rising =
      record {
        known = h.seated.within item known o;
        order = λ i p l e. order i p l e (ℕ_discrete (above i) (slot_of (get_or w item 0)));
        span = λ i q p l e.
            let on = h.seated.within item known o in
            omega (arith, around_key w (distance + 1) better_around (above (slot_of (get_or w item 0))) (omega arith) (omega arith), around_key w (distance + 1) better_around i l (omega arith), h.order (slot_of (get_or w item 0)) q on, rw e at (h.order i p l));
      }
    where
      order : (i : ℕ) → 0 < i → i < size → (i ≡ slot_of (get_or w item 0) → ⊥) → Dec (above i ≡ slot_of (get_or w item 0))
          → key_at (placed w n (slot_of (get_or w item 0)) item (distance + 1)) n (above i) ≤ key_at (placed w n (slot_of (get_or w item 0)) item (distance + 1)) n i
      order i p l e (yes x) =
          rw x (omega (arith, around_own w (distance + 1) better_around, around_key w (distance + 1) better_around i l e, own_was, rw x at (h.order i p l)))
      order i p l e (no x) =
          omega (arith, around_key w (distance + 1) better_around i l e, around_key w (distance + 1) better_around (above i) (omega arith) x, h.order i p l)

  pub better_lifted : Lifted n size (slot_of (get_or w item 0)) item (distance + 1) w
  better_lifted =
      record {
        known = known;
        seated = around_seated w (distance + 1) better_around (omega arith) (omega (arith, h.seated.small item known));
        rising = better_rising;
      }

  pub better_lowered : {work : List ℕ} → Sifted n size (placed w n (slot_of (get_or w item 0)) item (distance + 1)) work → Lowered n size item distance w work size
  better_lowered s = lowered_by distance better_around s (λ e. absurd (omega arith)) (λ p. refl) (λ p x. omega (arith, x o))
