-- `job::grid::Grid::steps_column` meets its contract.
use mathlib.Core.Path.{refl}
use native.Mathlib.Omega.{arith}
use Rattle.job.specs.Grid.{steps_column}
use Rattle.job.proofs.grid.Grid.steps_column.Goals as goal

pub overflow_add-result : goal.overflow_add-result
overflow_add-result c = omega (arith, c.requires.0.direction, c.requires.1)

pub returns : goal.returns
unfolding steps_column
returns c = refl
