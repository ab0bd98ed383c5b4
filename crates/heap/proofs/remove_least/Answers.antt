-- `heap::remove_least` meets its contract: the last item goes to the front, or none is left.
use native.Mathlib.Omega.{arith}
use Rattle.heap.proofs.Removing.{drop_asked, drop_removed, one_done}
use Rattle.heap.proofs.remove_least.Goals as goal
use Rattle.heap.proofs.remove_least.Goals.{then-rest-gt0, else-rest-gt0}

pub sift_down-requires : goal.sift_down-requires
sift_down-requires c =
    drop_asked c.requires.0 (omega (arith, c.if-rest-gt0.true)) c.item_at-item.ensures c.item_at-last.ensures c.settle.ensures c.key_at.ensures

pub returns : goal.returns
returns c =
    let pre = c.requires in
    let first = c.item_at-item.ensures in
    let last = c.item_at-last.ensures in
    let leaving = c.settle.ensures in
    elim c.if-rest-gt0.branch [
      | then-rest-gt0 w ↦ rw w.work-is (drop_removed pre.0 (omega (arith, w.if-rest-gt0.true)) first last leaving w.key_at.ensures w.sift_down.ensures)
      | else-rest-gt0 w ↦ rw w.work-is (one_done pre.0 pre.1 (omega (arith, w.if-rest-gt0.false)) first leaving)
    ]
