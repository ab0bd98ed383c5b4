-- `metal::codes::lay_run` meets its contract.
use Prim.Native.Nat.{ℕ, ◌≤◌, min}
use mathlib.Core.Path.{◌≡◌, refl, ap, ◌∙◌}
use native.Mathlib.Omega.{arith}
use Rattle.job.specs.Structs.{Small, grid_of}
use Rattle.job.specs.declared.grid.Grid.{Grid as GridStruct}
use Rattle.rules.specs.Tracks.{layer_of}
use Rattle.rules.specs.Structs.{direction_of, EndOn}
use Rattle.rules.specs.declared.end.End.{End}
use Rattle.rules.proofs.Fitting.{stride_fits_lem}
use Rattle.metal.specs.Codes.{beyond}
use Rattle.metal.proofs.Runs.{beyond_room}
use Rattle.metal.proofs.Turns.{running_begun, running_next, running_on, running_done}
use Rattle.metal.proofs.codes.lay_run.Invariants.{OnEnd}
use Rattle.metal.proofs.codes.lay_run.Goals as goal

-- an end has room for as many as are asked for and the track goes on
on_end : (g : GridStruct) (count : ℕ) {stride most : ℕ} {end : End} {fact : GridStruct → Type 0} → EndOn (grid_of g) stride end → most ≡ min count end.room
    → OnEnd end.vertex stride most end.toward fact → fact g
on_end g count on is so_far = so_far g on.on_grid on.step (omega (arith, is, on.room))

-- its track's stride is small
end_stride : (g : GridStruct) {stride : ℕ} {end : End} → Small g → EndOn (grid_of g) stride end → stride ≤ 256
end_stride g {end = end} small on = omega (arith, on.step, stride_fits_lem g (layer_of (grid_of g) end.vertex) small)

-- as many as there is room for are as many as are asked for
all_beyond : (g : GridStruct) (count : ℕ) {stride most : ℕ} {end : End} → EndOn (grid_of g) stride end → most ≡ min count end.room
    → beyond (grid_of g) (direction_of end.toward) most end.vertex ≡ beyond (grid_of g) (direction_of end.toward) count end.vertex
all_beyond g count on is = rw (is ∙ ap (min count) on.room) (beyond_room (grid_of g) _ count _ on.on_grid)

pub loop-count-init : goal.loop-count-init
loop-count-init c g on by room = running_begun on by room

pub next_toward-last-requires : goal.next_toward-last-requires
next_toward-last-requires c =
    let (g, sized, on, fits) = c.requires in
    let so_far = on_end g _ on c.min-count-end.ensures c.loop-count.invariant in
    let next = running_next so_far c.loop-count-test.true refl in
    (omega (arith, so_far.on_grid, sized.vertices), omega (arith, end_stride g sized.small on), λ e. omega (arith, next.within e, so_far.step))

pub lay-requires : goal.lay-requires
lay-requires c =
    let (g, sized, on, fits) = c.requires in
    let so_far = on_end g _ on c.min-count-end.ensures c.loop-count.invariant in
    let next = running_next so_far c.loop-count-test.true c.next_toward-last.ensures in
    omega (arith, next.on_grid, so_far.size, fits)

pub loop-count-preserved : goal.loop-count-preserved
loop-count-preserved c g on by room =
    running_on (c.loop-count.invariant g on by room) c.loop-count-test.true c.next_toward-last.ensures c.lay.ensures

pub shape_of-map : goal.shape_of-map
shape_of-map c =
    let (g, sized, on, fits) = c.requires in
    (on_end g _ on c.min-count-end.ensures c.loop-count.invariant).size

pub returns : goal.returns
returns c g on =
    let done = running_done (on_end g _ on c.min-count-end.ensures c.loop-count.invariant) c.loop-count-test.false in
    rw (← all_beyond g c.args.count on c.min-count-end.ensures) done
