-- `occupants::obstacles::obstacle_inside` meets its contract: the first vertex is inside, and its track has
-- room for the run.
use mathlib.Core.Path.{◌≡◌, sym}
use mathlib.Core.Bool.{true}
use native.Mathlib.Omega.{arith}
use Rattle.job.specs.Grid.{Grid, Vertex, inside}
use Rattle.job.proofs.Grids.{Below, below}
use Rattle.occupants.proofs.CoverTurns.{run_outside, run_columns, run_rows}
use Rattle.occupants.proofs.obstacles.obstacle_inside.Goals as goal

-- the numbers of a vertex inside
first_below : (g : Grid) (v : Vertex) → true ≡ inside g v → Below g v
first_below g v e = below g v (rw (← e) tt)

pub returns-then-not-inside : goal.returns-then-not-inside
returns-then-not-inside c = sym (run_outside _ _ c.requires.1 (sym c.if-not-inside.ensures))

pub steps_column-requires : goal.steps_column-requires
steps_column-requires c =
    let small = c.requires.0 in
    (small, omega (arith, (first_below _ _ c.if-not-inside.ensures).layer, small.layers))

pub overflow_sub-result : goal.overflow_sub-result
overflow_sub-result c = omega (arith, (first_below _ _ c.if-not-inside.ensures).column)

pub overflow_sub-result-else-steps_column : goal.overflow_sub-result-else-steps_column
overflow_sub-result-else-steps_column c = omega (arith, (first_below _ _ c.if-not-inside.ensures).row)

pub returns-then-steps_column : goal.returns-then-steps_column
returns-then-steps_column c = sym (run_columns _ _ c.requires.1 (sym c.if-not-inside.ensures) (sym c.if-steps_column.ensures))

pub returns-else-steps_column : goal.returns-else-steps_column
returns-else-steps_column c = sym (run_rows _ _ c.requires.1 (sym c.if-not-inside.ensures) (sym c.if-steps_column.ensures))
