-- `rules::overhead::overhead_price` meets its contract.
use native.Mathlib.Nat.{le_of_lt}
use native.Mathlib.Omega.{arith}
use Rattle.job.proofs.Sizes.{product_within}
use Rattle.rules.specs.Structs.{cost_of, overhead_cost, FewMissing}
use Rattle.rules.proofs.overhead.overhead_price.Goals as goal

pub overflow_mul-result : goal.overflow_mul-result
unfolding FewMissing
overflow_mul-result c =
    let pre = c.requires in
    let few = rw c.in-Lengthened.is at pre.1 in
    omega (arith, product_within 1024 16 (le_of_lt pre.0) (le_of_lt few))

pub returns-in-Nothing : goal.returns-in-Nothing
unfolding cost_of overhead_cost
returns-in-Nothing c = rw c.in-Nothing.is

pub returns-in-Lengthened : goal.returns-in-Lengthened
unfolding cost_of overhead_cost
returns-in-Lengthened c = rw c.in-Lengthened.is

pub returns-in-Penalised : goal.returns-in-Penalised
unfolding cost_of overhead_cost
returns-in-Penalised c = rw c.in-Penalised.is

pub returns-in-Forbidden : goal.returns-in-Forbidden
unfolding cost_of overhead_cost
returns-in-Forbidden c = rw c.in-Forbidden.is
