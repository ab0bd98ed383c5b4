-- `occupants::nets::read_boxes` meets its contract.
use mathlib.Core.Path.{sym, ◌∙◌}
use Rattle.job.proofs.Refusals.{passed_on}
use Rattle.occupants.proofs.BoxTurns.{boxes_all, boxes_next, boxes_refused, boxes_done}
use Rattle.occupants.proofs.nets.read_boxes.Goals as goal

pub loop-box-init : goal.loop-box-init
loop-box-init c = boxes_all _ _ _ _

pub returns-in_err-at : goal.returns-in_err-at
returns-in_err-at c =
    passed_on _ _ c.from_residual.ensures
    ∙ sym (boxes_refused c.loop-box.invariant c.loop-box-test.true c.in_err-at.ensures)

pub loop-box-preserved : goal.loop-box-preserved
loop-box-preserved c = boxes_next c.loop-box.invariant c.loop-box-test.true c.in_ok-at.ensures

pub returns : goal.returns
returns c = sym (boxes_done c.loop-box.invariant c.loop-box-test.false)
