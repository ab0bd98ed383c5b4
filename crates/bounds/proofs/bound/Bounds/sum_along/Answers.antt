-- `bounds::bound::Bounds::sum_along` meets its contract.
use mathlib.Core.Path.{refl, ◌∙◌}
use native.Mathlib.Omega.{arith}
use Rattle.bounds.proofs.Coordinates.{next_few}
use Rattle.bounds.proofs.bound.Bounds.sum_along.Goals as goal

pub sum_at-requires : goal.sum_at-requires
sum_at-requires c =
    let pre = c.requires in
    (omega (arith, pre.1), next_few _ _ c.next_toward.ensures (omega (arith, pre.3)), pre.4)

pub sum_at-requires-else-columns : goal.sum_at-requires-else-columns
sum_at-requires-else-columns c =
    let pre = c.requires in
    (next_few _ _ c.next_toward-else-columns.ensures (omega (arith, pre.1)), omega (arith, pre.3), pre.4)

pub returns-then-columns : goal.returns-then-columns
returns-then-columns c = rw c.if-columns.true (c.sum_at.ensures ∙ rw c.next_toward.ensures refl)

pub returns-else-columns : goal.returns-else-columns
returns-else-columns c = rw c.if-columns.false (c.sum_at-else-columns.ensures ∙ rw c.next_toward-else-columns.ensures refl)
