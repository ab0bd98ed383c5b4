-- `bounds::fill::left_at` meets its contract.
use mathlib.Core.Path.{refl}
use native.Mathlib.Omega.{arith}
use Rattle.bounds.specs.Fills.{leaves}
use Rattle.bounds.proofs.Axes.{leaves_fits}
use Rattle.bounds.proofs.fill.left_at.Goals as goal

pub overflow_mul-result : goal.overflow_mul-result
overflow_mul-result c =
    let fits = leaves_fits c.args.span c.args.price c.args.at c.requires.0 c.requires.1 c.requires.2 in
    omega (arith, rw (← c.saturating_sub.ensures, ← c.saturating_sub-2.ensures) at fits)

pub overflow_mul-result-2 : goal.overflow_mul-result-2
overflow_mul-result-2 c =
    let fits = leaves_fits c.args.span c.args.price c.args.at c.requires.0 c.requires.1 c.requires.2 in
    omega (arith, rw (← c.saturating_sub.ensures, ← c.saturating_sub-2.ensures) at fits)

pub returns : goal.returns
unfolding leaves
returns c = rw (c.saturating_sub.ensures, c.saturating_sub-2.ensures) refl
