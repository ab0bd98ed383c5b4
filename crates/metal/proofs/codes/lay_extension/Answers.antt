-- `metal::codes::lay_extension` meets its contract: the run at one end, then the one at the other.
use Prim.Native.Nat.{ℕ, ◌≤◌, ◌<◌}
use mathlib.Core.Path.{◌≡◌, refl, sym, ap, ◌∙◌}
use mathlib.Core.List.{List}
use Rattle.job.specs.Grid.{Grid, vertices}
use Rattle.job.specs.Structs.{Sized, grid_of, vertex_of, vertex_struct}
use Rattle.job.specs.declared.grid.Grid.{Grid as GridStruct}
use Rattle.job.specs.declared.grid.Vertex.{Vertex as VertexStruct}
use Rattle.rules.specs.Tracks.{vertex_by}
use Rattle.rules.specs.Segments.{Direction, opposite, Place}
use Rattle.rules.specs.Overheads.{first_of}
use Rattle.rules.specs.Structs.{OnGrid, track_of, direction_of, heading_of, steps_of, place_of, leaving_end, starting_end}
use Rattle.rules.specs.declared.segment.Direction.{Direction as DirectionEnum}
use Rattle.rules.specs.declared.track.Track.{Track}
use Rattle.rules.specs.declared.end.End.{End}
use Rattle.rules.specs.declared.overhead.Extension.{Extension}
use Rattle.rules.proofs.Fitting.{fits, track_known}
use Rattle.rules.proofs.Ends.{EndRead, leaving_read, starting_read}
use Rattle.metal.specs.Codes.{lay_all, beyond, extended}
use Rattle.metal.proofs.Laid.{laid_append, laid_length}
use Rattle.metal.proofs.codes.lay_extension.Goals as goal

module _ {grid : GridStruct} {v size : ℕ} (pre : (Sized grid) × (v < vertices (grid_of grid)) × (vertices (grid_of grid) ≤ size)) where
  on_grid_lem : OnGrid grid v
  on_grid_lem = record { small = pre.0.small; there = pre.1 }

  -- the track by the vertex that the code has read
  track_is : {from : VertexStruct} {track : Track} → from ≡ vertex_struct (vertex_by (grid_of grid) v) → track ≡ track_of (grid_of grid) (vertex_of from)
      → track ≡ track_of (grid_of grid) (vertex_by (grid_of grid) v)
  track_is isFrom is = is ∙ ap (λ (x : VertexStruct). track_of (grid_of grid) (vertex_of x)) isFrom

  -- the two ends, as the code has read them
  module _ {track : Track} (d : DirectionEnum) (n : ℕ) {end : End} (known : track ≡ track_of (grid_of grid) (vertex_by (grid_of grid) v)) where
    leaving_told : end ≡ leaving_end track v d → EndRead (grid_of grid) track.stride v (direction_of d) end
    leaving_told is = rw is (leaving_read pre.1 (track_known on_grid_lem known) d n)

    starting_told : end ≡ starting_end track v d n
        → EndRead (grid_of grid) track.stride (first_of (grid_of grid) (direction_of d) n v) (opposite (direction_of d)) end
    starting_told is = rw is (starting_read pre.1 (track_known on_grid_lem known) d n)

-- the run at the leaving end, then the one at the starting end
both_laid : (g : Grid) (p : Place) (e : Extension) (net stride : ℕ) (found : List ℕ) {d : Direction} {n : ℕ} {leaving starting : End} {mid last : List ℕ}
    → d ≡ heading_of p.segment → n ≡ steps_of p.segment → EndRead g stride p.vertex d leaving → EndRead g stride (first_of g d n p.vertex) (opposite d) starting
    → mid ≡ lay_all net (beyond g (direction_of leaving.toward) e.leaving leaving.vertex) found
    → last ≡ lay_all net (beyond g (direction_of starting.toward) e.starting starting.vertex) mid → last ≡ lay_all net (extended g p e) found
unfolding extended
both_laid g p e net stride found {d} {n} heading steps leaving starting first then =
    let second = rw (starting.toward, starting.vertex) at then in
    let run = beyond g (opposite d) e.starting (first_of g d n p.vertex) in
    let all = second ∙ ap (lay_all net run) (rw (leaving.toward, leaving.vertex) at first) ∙ sym (laid_append net (beyond g d e.leaving p.vertex) run found) in
    rw (← heading, ← steps) all

pub vertex_by-requires : goal.vertex_by-requires
vertex_by-requires c = on_grid_lem c.requires

pub track_of-track-requires : goal.track_of-track-requires
track_of-track-requires c =
    let pre = c.requires in
    (pre.0.small, rw c.vertex_by.ensures (fits _ _ (on_grid_lem pre)).layer)

pub leaving-leaving-requires : goal.leaving-leaving-requires
leaving-leaving-requires c =
    let pre = c.requires in
    (c.args.grid, on_grid_lem pre, track_is pre c.vertex_by.ensures c.track_of-track.ensures)

pub lay_run-requires : goal.lay_run-requires
lay_run-requires c =
    let pre = c.requires in
    let track = track_is pre c.vertex_by.ensures c.track_of-track.ensures in
    (c.args.grid, pre.0, (leaving_told pre _ 0 track c.leaving-leaving.ensures).on, pre.2)

pub starting-starting-requires : goal.starting-starting-requires
starting-starting-requires c =
    let pre = c.requires in
    (c.args.grid, on_grid_lem pre, track_is pre c.vertex_by.ensures c.track_of-track.ensures)

pub lay_run-requires-2 : goal.lay_run-requires-2
lay_run-requires-2 c =
    let pre = c.requires in
    let track = track_is pre c.vertex_by.ensures c.track_of-track.ensures in
    let first = c.lay_run.ensures _ (leaving_told pre _ 0 track c.leaving-leaving.ensures).on in
    (c.args.grid, pre.0, (starting_told pre _ _ track c.starting-starting.ensures).on, rw (first, laid_length) pre.2)

pub shape_of-map : goal.shape_of-map
shape_of-map c =
    let pre = c.requires in
    let track = track_is pre c.vertex_by.ensures c.track_of-track.ensures in
    let first = c.lay_run.ensures _ (leaving_told pre _ 0 track c.leaving-leaving.ensures).on in
    let then = c.lay_run-2.ensures _ (starting_told pre _ _ track c.starting-starting.ensures).on in
    rw (then, laid_length, first, laid_length) refl

pub returns : goal.returns
returns c =
    let pre = c.requires in
    let track = track_is pre c.vertex_by.ensures c.track_of-track.ensures in
    let leaving = leaving_told pre _ 0 track c.leaving-leaving.ensures in
    let starting = starting_told pre _ _ track c.starting-starting.ensures in
    both_laid _ (place_of c.args.place) _ _ _ _ c.heading_of-toward.ensures c.steps_of-steps.ensures leaving starting
    (c.lay_run.ensures _ leaving.on) (c.lay_run-2.ensures _ starting.on)
