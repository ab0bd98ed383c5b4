-- `rules::overhead::too_short` meets its contract.
use Prim.Native.Nat.{ℕ, ◌≤◌, ◌<◌, min}
use mathlib.Core.Path.{◌≡◌, refl, sym, ◌∙◌}
use mathlib.Core.List.{[], ◌∷◌}
use native.Mathlib.Omega.{arith}
use Rattle.std.proofs.Common.{slice_index_or}
use Rattle.job.specs.Grid.{vertices}
use Rattle.job.specs.Structs.{Sized, grid_of}
use Rattle.job.specs.declared.grid.Grid.{Grid as GridStruct}
use Rattle.rules.specs.Tracks.{vertex_by}
use Rattle.rules.specs.Segments.{Direction}
use Rattle.rules.specs.Structs.{OnGrid, direction_of, track_of, leaving_end, starting_end}
use Rattle.rules.specs.declared.segment.Direction.{Direction as DirectionEnum}
use Rattle.rules.specs.declared.track.Track.{Track}
use Rattle.rules.specs.declared.end.End.{End}
use Rattle.rules.proofs.Fitting.{track_known}
use Rattle.rules.proofs.Held.{seen_clear}
use Rattle.rules.proofs.Runs.{counting_begun, counting_next, counting_on, counting_unclear, counting_full}
use Rattle.rules.proofs.Ends.{end_vertex, end_toward, EndRead, leaving_read, starting_read, end_read, counted-begun, counted_on, counted-within, counted_done}
use Rattle.rules.proofs.Owed.{short_pays, short_lays}
use Rattle.rules.proofs.overhead.too_short.Goals as goal

-- a vertex of the grid
on_grid_lem : {grid : GridStruct} {v : ℕ} → Sized grid → v < vertices (grid_of grid) → OnGrid grid v
on_grid_lem sized there = record { small = sized.small; there = there }

-- what it has read of the end whose turn it is
end_told : {g : GridStruct} {v which : ℕ} {track : Track} {leaving starting : End} (d : DirectionEnum) (n : ℕ) (other : End) {heading : Direction}
    → direction_of d ≡ heading → leaving ≡ leaving_end track v d → starting ≡ starting_end track v d n → which < 2
    → OnGrid g v → track ≡ track_of (grid_of g) (vertex_by (grid_of g) v)
    → EndRead (grid_of g) track.stride (end_vertex (grid_of g) heading n v which) (end_toward heading which)
    (slice_index_or (leaving ∷ starting ∷ []) which other)
end_told {which = which} d n other heading leaves starts h on is =
    let r = track_known on is in
    rw (← heading) (end_read _ _ _ _ which other h (rw leaves (leaving_read on.there r d n)) (rw starts (starting_read on.there r d n)))

-- a count below its end is below what is asked for and the room, and one past it is not
count-within : (most room : ℕ) {count end beyond : ℕ} → count < end → end ≡ min most room → room ≡ beyond → count < min most beyond
count-within most room h e f = omega (arith, h, e, f)

count_past : (most room : ℕ) {count end beyond : ℕ} → end ≤ count → end ≡ min most room → room ≡ beyond → min most beyond ≤ count
count_past most room h e f = omega (arith, h, e, f)

pub ends-init : goal.ends-init
ends-init c g on is = counted-begun _ _ _ _ _ _

pub overflow_sub-missing : goal.overflow_sub-missing
overflow_sub-missing c =
    let (grid, sized, there, is) = c.requires.0 in
    counted-within _ _ _ _ _ _ _ _ _ c.ends-test.true there (c.ends.invariant grid (on_grid_lem sized there) is)

pub loop-count-init : goal.loop-count-init
loop-count-init c = (
  omega arith,
  λ g on is.
      let end = end_told _ _ _ c.heading_of-toward.ensures c.leaving-leaving_end.ensures c.starting-starting_end.ensures c.ends-test.true on is in
      counting_begun _ _ _ _ _ end.on.on_grid end.on.step,
)

pub next_toward-last-requires : goal.next_toward-last-requires
next_toward-last-requires c =
    let (grid, sized, there, is) = c.requires.0 in
    let on = on_grid_lem sized there in
    let so_far = c.loop-count.invariant.1 grid on is in
    let end = end_told _ _ _ c.heading_of-toward.ensures c.leaving-leaving_end.ensures c.starting-starting_end.ensures c.ends-test.true on is in
    let less = count-within _ _ c.loop-count-test.true c.min-count-end.ensures end.on.room in
    let next = counting_next _ _ _ _ _ so_far less refl in
    (omega (arith, so_far.on_grid, sized.vertices), omega (arith, (track_known on is).stride_fits), λ e. omega (arith, next.within e, so_far.step))

pub clear-requires : goal.clear-requires
clear-requires c =
    let (grid, sized, there, is) = c.requires.0 in
    let on = on_grid_lem sized there in
    let so_far = c.loop-count.invariant.1 grid on is in
    let end = end_told _ _ _ c.heading_of-toward.ensures c.leaving-leaving_end.ensures c.starting-starting_end.ensures c.ends-test.true on is in
    let less = count-within _ _ c.loop-count-test.true c.min-count-end.ensures end.on.room in
    let next = counting_next _ _ _ _ _ so_far less c.next_toward-last.ensures in
    omega (arith, next.on_grid, sized.vertices)

pub ends-preserved-then-not-clear : goal.ends-preserved-then-not-clear
ends-preserved-then-not-clear c g on is =
    let inv = c.loop-count.invariant in
    let so_far = inv.1 g on is in
    let end = end_told _ _ _ c.heading_of-toward.ensures c.leaving-leaving_end.ensures c.starting-starting_end.ensures c.ends-test.true on is in
    let less = count-within _ _ c.loop-count-test.true c.min-count-end.ensures end.on.room in
    let next = counting_next _ _ _ _ _ so_far less c.next_toward-last.ensures in
    let unclear = seen_clear _ _ _ next.on_grid ∙ sym c.clear.ensures ∙ c.if-not-clear.true in
    rw inv.0 (counted_on _ _ _ _ _ _ _ _ _ c.ends-test.true (c.ends.invariant g on is) end
    (counting_unclear _ _ _ _ _ so_far less c.next_toward-last.ensures unclear))

pub loop-count-preserved : goal.loop-count-preserved
loop-count-preserved c =
    let inv = c.loop-count.invariant in (
      omega (arith, inv.0),
      λ g on is.
          let so_far = inv.1 g on is in
          let end = end_told _ _ _ c.heading_of-toward.ensures c.leaving-leaving_end.ensures c.starting-starting_end.ensures c.ends-test.true on is in
          let less = count-within _ _ c.loop-count-test.true c.min-count-end.ensures end.on.room in
          let next = counting_next _ _ _ _ _ so_far less c.next_toward-last.ensures in
          let is-clear = seen_clear _ _ _ next.on_grid ∙ sym c.clear.ensures ∙ c.if-not-clear.false in
          counting_on _ _ _ _ _ so_far less c.next_toward-last.ensures is-clear,
    )

pub ends-preserved : goal.ends-preserved
ends-preserved c g on is =
    let inv = c.loop-count.invariant in
    let end = end_told _ _ _ c.heading_of-toward.ensures c.leaving-leaving_end.ensures c.starting-starting_end.ensures c.ends-test.true on is in
    let full = counting_full _ _ _ _ _ (inv.1 g on is) (count_past _ _ c.loop-count-test.false c.min-count-end.ensures end.on.room) in
    rw inv.0 (counted_on _ _ _ _ _ _ _ _ _ c.ends-test.true (c.ends.invariant g on is) end full)

pub returns-then-laid-missing : goal.returns-then-laid-missing
returns-then-laid-missing c g on is =
    let both = counted_done _ _ _ _ _ _ _ _ _ c.ends-test.false (c.ends.invariant g on is) in
    short_pays _ _ _ _ _ refl (sym c.steps_of-length.ensures) c.saturating_sub-missing.ensures both.leaves both.starts
    (omega (arith, both.order, c.if-laid-missing.true)) (c.otherwise.ensures _ _ _ _)

pub overflow_sub-starting : goal.overflow_sub-starting
overflow_sub-starting c =
    let (grid, sized, there, is) = c.requires.0 in
    (counted_done _ _ _ _ _ _ _ _ _ c.ends-test.false (c.ends.invariant grid (on_grid_lem sized there) is)).order

pub returns : goal.returns
returns c g on is =
    let both = counted_done _ _ _ _ _ _ _ _ _ c.ends-test.false (c.ends.invariant g on is) in
    let missing = c.saturating_sub-missing.ensures in
    short_lays _ _ _ _ _ refl (sym c.steps_of-length.ensures) missing both.leaves both.starts
    on.there (omega (arith, both.order, c.if-laid-missing.false)) (omega (arith, missing, c.requires.1))
