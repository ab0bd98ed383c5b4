-- `job::grid::Grid::number` meets its contract.
use mathlib.Core.Path.{refl}
use native.Mathlib.Omega.{arith}
use Rattle.job.specs.Grid.{vertex_number}
use Rattle.job.proofs.Sizes.{number_fits}
use Rattle.job.proofs.grid.Grid.number.Goals as goal

pub overflow_mul-result : goal.overflow_mul-result
overflow_mul-result c = omega (arith, number_fits c.args.self c.args.v c.requires.0 c.requires.1)

pub overflow_add-result : goal.overflow_add-result
overflow_add-result c = omega (arith, number_fits c.args.self c.args.v c.requires.0 c.requires.1)

pub overflow_mul-result-2 : goal.overflow_mul-result-2
overflow_mul-result-2 c = omega (arith, number_fits c.args.self c.args.v c.requires.0 c.requires.1)

pub overflow_add-result-2 : goal.overflow_add-result-2
overflow_add-result-2 c = omega (arith, number_fits c.args.self c.args.v c.requires.0 c.requires.1)

pub returns : goal.returns
unfolding vertex_number
returns c = refl
