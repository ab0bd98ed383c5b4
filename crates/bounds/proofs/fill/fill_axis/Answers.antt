-- `bounds::fill::fill_axis` meets its contract.
use mathlib.Core.Path.{◌≡◌, refl, ap, ◌∙◌}
use native.Mathlib.Omega.{arith}
use lib.ListN.{length}
use Rattle.bounds.specs.Fills.{axis_filled}
use Rattle.bounds.proofs.Axes.{axis_turn, axis_size}
use Rattle.bounds.proofs.fill.fill_axis.Goals as goal

pub loop-i-init : goal.loop-i-init
unfolding axis_filled
loop-i-init c = (omega arith, refl)

pub bounds-bounds-first : goal.bounds-bounds-first
bounds-bounds-first c =
    let size = axis_size c.args.span c.args.price c.args.first c.args.bounds.now c.loop-i.i in
    omega (arith, ap length c.loop-i.invariant.1, size, c.requires.0, c.loop-i-test.true)

pub loop-i-preserved : goal.loop-i-preserved
loop-i-preserved c =
    (omega (arith, c.loop-i-test.true), axis_turn _ _ _ _ c.loop-i.i c.loop-i.invariant.1 c.left_at.ensures)

pub shape_of-bounds : goal.shape_of-bounds
shape_of-bounds c =
    ap length c.loop-i.invariant.1 ∙ axis_size c.args.span c.args.price c.args.first c.args.bounds.now c.loop-i.i

pub returns : goal.returns
returns c =
    let done : c.loop-i.i ≡ c.args.count = omega (arith, c.loop-i.invariant.0, c.loop-i-test.false) in
    rw done at c.loop-i.invariant.1
