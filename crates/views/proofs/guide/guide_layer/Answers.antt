-- `views::guide::guide_layer` meets its contract.
use mathlib.Core.Path.{sym, ◌∙◌}
use native.Mathlib.Omega.{arith}
use Rattle.rules.proofs.Vertices.{vertex_below}
use Rattle.views.specs.Sight.{in_row}
use Rattle.views.proofs.Axes.{found_begin, found_turn, found_none, found_end}
use Rattle.views.proofs.Rows.{row_outside}
use Rattle.views.proofs.guide.guide_layer.Goals as goal
use Rattle.views.proofs.guide.guide_layer.Goals.{then-on_rows, else-on_rows}

pub loop-row-init : goal.loop-row-init
loop-row-init c = found_begin _ _ _ _

pub guide_row-requires : goal.guide_row-requires
guide_row-requires c =
    let pre = c.requires in
    (pre.0, omega arith, pre.2, omega arith)

pub loop-row-preserved : goal.loop-row-preserved
unfolding in_row
loop-row-preserved c =
    let so_far = c.loop-row.invariant in
    let asked = c.on_rows.ensures in
    elim c.if-on_rows.branch [
      | then-on_rows w ↦ rw w.seen-is (found_turn _ _ _ so_far w.guide_row.auto.seen w.guide_row.ensures)
      | else-on_rows w ↦ rw w.seen-is (found_none _ _ _ so_far (row_outside _ _ _ (sym asked ∙ w.if-on_rows.false)))
    ]

pub shape_of-seen : goal.shape_of-seen
shape_of-seen c = c.loop-row.invariant.size

pub returns : goal.returns
returns c = found_end _ _ _ c.loop-row.invariant (λ v on. omega (arith, c.loop-row-test.false, (vertex_below _ on).row))
