-- `rules::end::End::starting` meets its contract.
use Prim.Native.Nat.{ℕ, ◌*◌, ◌≤◌, ◌<◌, min}
use mathlib.Core.Path.{◌≡◌, refl, ap, ◌∙◌}
use native.Mathlib.Omega.{arith}
use Rattle.job.specs.Structs.{grid_of}
use Rattle.job.specs.declared.grid.Grid.{Grid as GridStruct}
use Rattle.job.proofs.Sizes.{small_vertices}
use Rattle.rules.specs.Tracks.{vertex_by}
use Rattle.rules.specs.Segments.{low}
use Rattle.rules.specs.Structs.{OnGrid, track_of, direction_of, opposite_to, room_in, starting_end}
use Rattle.rules.specs.declared.segment.Direction.{Direction}
use Rattle.rules.specs.declared.track.Track.{Track}
use Rattle.rules.proofs.Fitting.{fits, track_known}
use Rattle.rules.proofs.Ends.{way_back}
use Rattle.rules.proofs.end.End.starting.Goals as goal

-- how far the first vertex lies back, by what the code computes
record Way (track : Track) (v steps : ℕ) (back : Direction) : Type 0 where
  vertex : v < 524288
  near : steps * track.stride < 524288
  within : direction_of back ≡ low → steps * track.stride ≤ v

way : (toward : Direction) (n : ℕ) {track : Track} {v room steps : ℕ} {back : Direction}
    → ((grid : GridStruct) × OnGrid grid v × (track ≡ track_of (grid_of grid) (vertex_by (grid_of grid) v)))
    → back ≡ opposite_to toward → room ≡ room_in track (direction_of back) → steps ≡ min n room → Way track v steps back
way toward n {track} {v} {room} {steps} {back} (grid, on, is) isBack is_room isSteps =
    let r = way_back on.there (track_known on is) toward n in
    let fit = fits grid v on in
    let all : steps ≡ min n (room_in track (direction_of (opposite_to toward))) = isSteps ∙ ap (min n) (is_room ∙ ap (λ (d : Direction). room_in track (direction_of d)) isBack) in
    record { vertex = fit.vertex; near = rw all (omega (arith, r.near, small_vertices grid on.small)); within = rw (isBack, all) r.within }

pub room_toward-room-requires : goal.room_toward-room-requires
room_toward-room-requires c = let (grid, on, is) = c.requires in (track_known on is).on_track

pub overflow_mul-steps : goal.overflow_mul-steps
overflow_mul-steps c = omega (arith, (way _ _ c.requires c.opposite-back.ensures c.room_toward-room.ensures c.min-steps.ensures).near)

pub next_toward-requires : goal.next_toward-requires
next_toward-requires c =
    let w = way _ _ c.requires c.opposite-back.ensures c.room_toward-room.ensures c.min-steps.ensures in
    (omega (arith, w.vertex), omega (arith, w.near), w.within)

pub returns : goal.returns
unfolding starting_end
returns c = rw (c.next_toward.ensures, c.min-steps.ensures, c.room_toward-room.ensures, c.opposite-back.ensures) refl
