-- Turns of the loops that store into a slice.
--     Putting, putting_begun, _on, _past, _done           putting obstacles in
--     Running, running_begun, _next, _on, _done           laying a run
--     Laying, laying_begun, _below, _on, _done            laying pins
use Prim.Native.Nat.{ℕ, suc, ◌+◌, ◌-◌, ◌≤◌, ◌<◌}
use mathlib.Core.Path.{◌≡◌, refl, sym, ap, ◌∙◌}
use mathlib.Core.List.{List}
use native.Mathlib.Numerals.{add-one}
use native.Mathlib.Omega.{arith}
use lib.ListN.{length, get_or, set, drop, length-set, drop_of_length-le}
use lib.Seq.{drop-cons}
use borrow.Author.Tests.{eq-eqb, ne_eqb}
use Rattle.job.specs.Lists.{All}
use Rattle.job.specs.Grid.{Grid, vertices, stride_of}
use Rattle.rules.specs.Tracks.{layer_of, entered}
use Rattle.rules.specs.Segments.{Direction}
use Rattle.rules.specs.Overheads.{toward}
use Rattle.rules.specs.Structs.{room_toward, next_on}
use Rattle.rules.proofs.Rooms.{next_toward, Onward, onward, room_enters}
use Rattle.rules.proofs.Standing.{all_at}
use Rattle.metal.specs.Codes.{laid_code, lay_all, from_entered, beyond, with_obstacles}

-- ---- putting obstacles in

-- so far the obstacles of so many vertices are put in
pub record Putting (occupants : List ℕ) (count : ℕ) (found : List ℕ) (done : ℕ) (held : List ℕ) : Type 0 where
  pub room : count ≤ length found
  pub within : done ≤ count
  pub size : length held ≡ length found
  pub put : held ≡ with_obstacles occupants done found

-- none is
pub putting_begun : (occupants : List ℕ) (count : ℕ) (found : List ℕ) → count ≤ length found → Putting occupants count found 0 found
unfolding with_obstacles
putting_begun occupants count found h = record { room = h; within = omega arith; size = refl; put = refl }

module _ {occupants : List ℕ} {count done : ℕ} {found held : List ℕ} (so_far : Putting occupants count found done held) where
  -- a vertex with an obstacle's occupant
  pub putting_on : done < count → get_or occupants done 0 ≡ 1 → Putting occupants count found (done + 1) (set held done 257)
  unfolding with_obstacles
  putting_on h e =
      record {
        room = so_far.room;
        within = omega arith;
        size = length-set held done 257 ∙ so_far.size;
        put = rw (add-one, so_far.put, eq-eqb (get_or occupants done 0) 1 e) refl;
      }

  -- a vertex with another occupant
  pub putting_past : done < count → (get_or occupants done 0 ≡ 1 → ⊥) → Putting occupants count found (done + 1) held
  unfolding with_obstacles
  putting_past h apart =
      record {
        room = so_far.room;
        within = omega arith;
        size = so_far.size;
        put = rw (add-one, so_far.put, ne_eqb (get_or occupants done 0) 1 apart) refl;
      }

  -- all are
  pub putting_done : count ≤ done → held ≡ with_obstacles occupants count found
  putting_done h = let all : count ≡ done = omega arith in rw all so_far.put

-- ---- laying a run

-- along a track by its stride: so many vertices are laid, and laying those that are left beyond the last
-- gives all
pub record Running (g : Grid) (d : Direction) (net count v : ℕ) (found : List ℕ) (stride last done : ℕ) (held : List ℕ) : Type 0 where
  pub on_grid : last < vertices g
  pub step : stride_of g (layer_of g last) ≡ stride
  pub room : count ≤ done + room_toward g d last
  pub size : length held ≡ length found
  pub laid : lay_all net (beyond g d count v) found ≡ lay_all net (beyond g d (count - done) last) held

module _ {g : Grid} {d : Direction} {net count v : ℕ} {found : List ℕ} {stride : ℕ} where
  -- all are left
  pub running_begun : v < vertices g → stride_of g (layer_of g v) ≡ stride → count ≤ room_toward g d v → Running g d net count v found stride v 0 found
  running_begun on by room =
      let all : count - 0 ≡ count = omega arith in
      record { on_grid = on; step = by; room = omega (arith, room); size = refl; laid = rw all refl }

  module _ {last done : ℕ} {held : List ℕ} (so_far : Running g d net count v found stride last done held) where
    module _ {w : ℕ} (h : done < count) (is : w ≡ next_on stride d last) where
      -- the track goes on
      goes_on_lem : 0 < room_toward g d last
      goes_on_lem = omega (arith, so_far.room, h)

      -- the first of those that are left, and the rest
      rest_from : beyond g d (count - done) last ≡ from_entered (beyond g d (count - (done + 1))) (entered g last (toward d))
      unfolding beyond
      rest_from = let one : count - done ≡ suc (count - (done + 1)) = omega (arith, h) in ap (λ (k : ℕ). beyond g d k last) one

      -- the next vertex by the stride of the track is the next of the last one's layer
      same_next : next_toward g d last ≡ w
      same_next = ap (λ (s : ℕ). next_on s d last) so_far.step ∙ sym is

      -- the next vertex is one step along the track
      pub running_next : Onward g d last w
      running_next = rw same_next at (onward g d so_far.on_grid goes_on_lem)

      -- one more is laid
      pub running_on : {after : List ℕ} → after ≡ set held w (laid_code net (get_or held w 0))
          → Running g d net count v found stride w (done + 1) after
      unfolding from_entered lay_all
      running_on Laid-on =
          let on = running_next in
          record {
            on_grid = on.on_grid;
            step = ap (stride_of g) on.layer ∙ so_far.step;
            room = omega (arith, so_far.room, on.room);
            size = rw Laid-on (length-set held w _ ∙ so_far.size);
            laid = so_far.laid ∙ rw (rest_from, room_enters g d last goes_on_lem, same_next, Laid-on) refl;
          }

    -- all are laid
    pub running_done : count ≤ done → held ≡ lay_all net (beyond g d count v) found
    unfolding beyond lay_all
    running_done h = let none : count - done ≡ 0 = omega (arith, h) in sym (so_far.laid ∙ rw none refl)

-- ---- laying pins

-- so many pins are laid, and laying the rest gives all
pub record Laying (net : ℕ) (pins found : List ℕ) (done : ℕ) (held : List ℕ) : Type 0 where
  pub below : All (λ v. v < length found) pins
  pub size : length held ≡ length found
  pub laid : lay_all net pins found ≡ lay_all net (drop done pins) held

module _ {net : ℕ} {pins found : List ℕ} where
  -- none is
  pub laying_begun : All (λ v. v < length found) pins → Laying net pins found 0 found
  laying_begun below = record { below = below; size = refl; laid = refl }

  module _ {done : ℕ} {held : List ℕ} (so_far : Laying net pins found done held) where
    -- the next pin is a vertex of the map
    pub laying_below : done < length pins → get_or pins done 0 < length held
    laying_below h = omega (arith, all_at (λ v. v < length found) pins done 0 so_far.below h, so_far.size)

    -- one more is laid
    pub laying_on : {after : List ℕ} → done < length pins → after ≡ set held (get_or pins done 0) (laid_code net (get_or held (get_or pins done 0) 0))
        → Laying net pins found (done + 1) after
    unfolding lay_all
    laying_on h is =
        record {
          below = so_far.below;
          size = rw is (length-set held (get_or pins done 0) _ ∙ so_far.size);
          laid = so_far.laid ∙ rw (add-one, is, drop-cons pins done 0 h) refl;
        }

    -- all are
    pub laying_done : length pins ≤ done → held ≡ lay_all net pins found
    unfolding lay_all
    laying_done h = sym (so_far.laid ∙ rw (drop_of_length-le pins {i = done} h) refl)
