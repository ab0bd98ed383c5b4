-- `search::places::segment_code` meets its contract.
use mathlib.Core.Path.{refl}
use native.Mathlib.Omega.{arith}
use Rattle.rules.specs.Places.{segment_code}
use Rattle.rules.specs.Structs.{segment_of}
use Rattle.search.proofs.Numbers.{running_code, toward_code, toward_small, running_good}
use Rattle.search.proofs.places.segment_code.Goals as goal

pub overflow_mul-result : goal.overflow_mul-result
overflow_mul-result c =
    let pre = c.requires in
    omega (arith, running_good c.in-Running.is pre.2, pre.1)

pub overflow_sub-result : goal.overflow_sub-result
overflow_sub-result c = omega (arith, running_good c.in-Running.is c.requires.2)

pub overflow_add-result : goal.overflow_add-result
overflow_add-result c =
    let pre = c.requires in
    omega (arith, running_good c.in-Running.is pre.2, pre.1, toward_small _ c.move_toward.ensures)

pub overflow_add-result-in-PaidToward : goal.overflow_add-result-in-PaidToward
overflow_add-result-in-PaidToward c = omega (arith, c.requires.1, toward_small _ c.move_toward-in-PaidToward.ensures)

pub returns-in-Fresh : goal.returns-in-Fresh
unfolding segment_of segment_code
returns-in-Fresh c = rw c.in-Fresh.is refl

pub returns-in-Running : goal.returns-in-Running
unfolding segment_of
returns-in-Running c = rw (c.in-Running.is, c.move_toward.ensures) (running_code _ _ _ (running_good c.in-Running.is c.requires.2).0)

pub returns-in-Paid : goal.returns-in-Paid
unfolding segment_of segment_code
returns-in-Paid c = rw c.in-Paid.is refl

pub returns-in-PaidToward : goal.returns-in-PaidToward
unfolding segment_of
returns-in-PaidToward c = rw (c.in-PaidToward.is, c.move_toward-in-PaidToward.ensures) (toward_code _ _)
