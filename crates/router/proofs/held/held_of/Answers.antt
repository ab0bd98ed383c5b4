-- `router::held::held_of` meets its contract: its numbers are within their limits.
use mathlib.Core.Path.{refl}
use native.Mathlib.Omega.{arith}
use Rattle.router.specs.Held.{held_of}
use Rattle.router.proofs.Holding.{holds-sized, holds_numbers, holds_obstacles}
use Rattle.router.proofs.held.held_of.Goals as goal

pub vertices-vertices-requires : goal.vertices-vertices-requires
vertices-vertices-requires c = (holds-sized _ _ c.requires).small

pub overflow_mul-result : goal.overflow_mul-result
overflow_mul-result c = omega (arith, holds_numbers _ _ c.requires c.vertices-vertices.ensures c.largest_least-largest.ensures)

pub overflow_add-result : goal.overflow_add-result
overflow_add-result c = omega (arith, holds_numbers _ _ c.requires c.vertices-vertices.ensures c.largest_least-largest.ensures)

pub overflow_mul-result-2 : goal.overflow_mul-result-2
overflow_mul-result-2 c = omega (arith, holds_numbers _ _ c.requires c.vertices-vertices.ensures c.largest_least-largest.ensures)

pub overflow_mul-result-3 : goal.overflow_mul-result-3
overflow_mul-result-3 c = omega (arith, (holds-sized _ _ c.requires).small.layers)

pub overflow_add-result-2 : goal.overflow_add-result-2
overflow_add-result-2 c = omega (arith, (holds-sized _ _ c.requires).small.layers)

pub overflow_mul-result-4 : goal.overflow_mul-result-4
overflow_mul-result-4 c = omega (arith, holds_obstacles _ _ c.requires)

pub overflow_add-result-3 : goal.overflow_add-result-3
overflow_add-result-3 c =
    let holds = c.requires in
    omega (arith, (holds-sized _ _ holds).small.layers, holds_obstacles _ _ holds)

pub returns : goal.returns
unfolding held_of
returns c = rw (c.vertices-vertices.ensures, c.largest_least-largest.ensures) refl
