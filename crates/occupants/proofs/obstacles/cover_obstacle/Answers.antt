-- `occupants::obstacles::cover_obstacle` meets its contract: the vertices of a run stand a stride apart.
use mathlib.Core.Path.{sym}
use native.Mathlib.Omega.{arith}
use Rattle.job.specs.Reading.{covered}
use Rattle.job.specs.Structs.{grid_of, vertex_of}
use Rattle.occupants.specs.Occupants.{cover_obstacle}
use Rattle.job.proofs.Grids.{below}
use Rattle.occupants.proofs.Runs.{cover_every_lem, run_inside}
use Rattle.job.proofs.Sizes.{inside_fields}
use Rattle.occupants.proofs.CoverTurns.{run_first, stride_within}
use Rattle.occupants.proofs.obstacles.cover_obstacle.Goals as goal

pub number-requires : goal.number-requires
number-requires c =
    let p = c.requires in
    (p.0.small, inside_fields _ _ p.0.small (run_first _ _ p.1 p.2))

pub stride-requires : goal.stride-requires
stride-requires c =
    let p = c.requires in
    let inside = below _ _ (run_first _ _ p.1 p.2) in
    (p.0.small, omega (arith, inside.layer, p.0.small.layers))

pub cover_run-requires : goal.cover_run-requires
unfolding covered
cover_run-requires c =
    let a = c.args in
    let p = c.requires in
    rw (c.stride.ensures, c.number.ensures)
    (stride_within a.grid _ p.0.small, run_inside (grid_of a.grid) (vertex_of a.obstacle.first) a.obstacle.run p.0.vertices p.2)

pub returns : goal.returns
unfolding cover_obstacle covered
returns c =
    let a = c.args in
    rw (c.cover_run.ensures, c.stride.ensures, c.number.ensures)
    (sym (cover_every_lem (grid_of a.grid) (vertex_of a.obstacle.first) a.obstacle.run a.occupants.now))
