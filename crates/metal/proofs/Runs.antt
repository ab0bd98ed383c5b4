-- The vertices beyond one, along its track.
--     beyond_room      as many as asked for, or as the track goes on
--     beyond-clear     where so many are clear, they are the clear ones
--     extended-clear   where it is whole, they are those that it lays
use Prim.Native.Nat.{ℕ, zero, suc, ◌<◌, min}
use mathlib.Core.Path.{◌≡◌, refl, ap}
use mathlib.Core.List.{List, [], ◌∷◌}
use mathlib.Core.Bool.{Bool, true, false}
use native.Mathlib.Omega.{arith}
use lib.ListN.{length}
use Rattle.job.specs.Grid.{Grid, vertices}
use Rattle.rules.specs.Tracks.{Entered, outside, at, entered}
use Rattle.rules.specs.Views.{View}
use Rattle.rules.specs.Segments.{Direction, opposite, Place}
use Rattle.rules.specs.Overheads.{clear, toward, on_from, clear_run, first_of}
use Rattle.rules.specs.Structs.{heading_of, steps_of, room_toward, laid_by, Whole}
use Rattle.rules.specs.declared.overhead.Extension.{Extension}
use Rattle.rules.proofs.Rooms.{next_toward, onward, room_enters, room_ends}
use Rattle.metal.specs.Codes.{from_entered, beyond, extended}

-- where so many vertices beyond one are clear, they are the clear ones
beyond-clear : (g : Grid) (view : View) (d : Direction) (n v : ℕ) → length (clear_run g view d n v) ≡ n → beyond g d n v ≡ clear_run g view d n v
unfolding beyond from_entered clear_run on_from
beyond-clear g view d zero v whole = refl
beyond-clear g view d (suc n) v whole = by (entered g v (toward d)) whole (beyond-clear g view d n)
  where
    by : (r : Entered) → length (on_from view (clear_run g view d n) r) ≡ suc n
        → ((w : ℕ) → length (clear_run g view d n w) ≡ n → beyond g d n w ≡ clear_run g view d n w)
        → from_entered (beyond g d n) r ≡ on_from view (clear_run g view d n) r
    by outside h rest = absurd (omega (arith, h))
    by (at w) h rest = clearly (clear view w) h
      where
        clearly : (b : Bool) → length {A = ℕ} (elim b [ true ↦ w ∷ clear_run g view d n w | false ↦ [] ]) ≡ suc n
            → w ∷ beyond g d n w ≡ elim b [ true ↦ w ∷ clear_run g view d n w | false ↦ [] ]
        clearly true all = ap (λ (ws : List ℕ). w ∷ ws) (rest w (omega (arith, all)))
        clearly false all = absurd (omega (arith, all))

-- as many as are asked for are there, or as many as the track goes on
pub beyond_room : (g : Grid) (d : Direction) (n v : ℕ) → v < vertices g → beyond g d (min n (room_toward g d v)) v ≡ beyond g d n v
unfolding beyond from_entered
beyond_room g d zero v h = let none : min 0 (room_toward g d v) ≡ 0 = omega arith in rw none refl
beyond_room g d (suc n) v h = by (room_toward g d v) refl (beyond_room g d n)
  where
    by : (room : ℕ) → room_toward g d v ≡ room → ((w : ℕ) → w < vertices g → beyond g d (min n (room_toward g d w)) w ≡ beyond g d n w)
        → beyond g d (min (suc n) (room_toward g d v)) v ≡ beyond g d (suc n) v
    by zero e rest = let none : min (suc n) (room_toward g d v) ≡ 0 = omega (arith, e) in rw (none, room_ends g d v e) refl
    by (suc k) e rest =
        let room : 0 < room_toward g d v = omega (arith, e) in
        let on = onward g d h room in
        let one : min (suc n) (room_toward g d v) ≡ suc (min n (room_toward g d (next_toward g d v))) = omega (arith, on.room) in
        rw (one, room_enters g d v room) (ap (λ (vs : List ℕ). next_toward g d v ∷ vs) (rest _ on.on_grid))

-- where an extension is whole, its vertices are those that it lays
pub extended-clear : (g : Grid) (view : View) (p : Place) (e : Extension) → Whole g view p e → extended g p e ≡ laid_by g view p e
unfolding extended laid_by
extended-clear g view p e whole =
    let d = heading_of p.segment in
    let first = first_of g d (steps_of p.segment) p.vertex in
    rw (beyond-clear g view d e.leaving p.vertex whole.leaving, beyond-clear g view (opposite d) e.starting first whole.starting) refl
