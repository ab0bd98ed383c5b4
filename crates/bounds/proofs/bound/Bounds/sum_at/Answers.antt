-- `bounds::bound::Bounds::sum_at` meets its contract.
use native.Mathlib.Omega.{arith}
use Rattle.bounds.proofs.bound.Bounds.sum_at.Goals as goal

pub overflow_add-result : goal.overflow_add-result
overflow_add-result c =
    omega (arith, c.args.self.now.small c.args.column, c.args.self.now.small c.args.layer)

pub overflow_add-result-2 : goal.overflow_add-result-2
overflow_add-result-2 c =
    omega (arith, c.args.self.now.small c.args.row, c.args.self.now.small c.args.column, c.args.self.now.small c.args.layer)
