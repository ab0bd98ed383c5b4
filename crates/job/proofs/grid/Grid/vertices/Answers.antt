-- `job::grid::Grid::vertices` meets its contract.
use mathlib.Core.Path.{refl}
use native.Mathlib.Omega.{arith}
use Rattle.job.specs.Grid.{vertices}
use Rattle.job.proofs.Sizes.{product_within, small_vertices}
use Rattle.job.proofs.grid.Grid.vertices.Goals as goal

pub overflow_mul-result : goal.overflow_mul-result
overflow_mul-result c = omega (arith, product_within 8 256 c.requires.layers c.requires.rows)

pub overflow_mul-result-2 : goal.overflow_mul-result-2
unfolding vertices
overflow_mul-result-2 c = omega (arith, small_vertices c.args.self c.requires)

pub returns : goal.returns
unfolding vertices
returns c = refl
