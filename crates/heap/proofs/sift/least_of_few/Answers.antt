-- `heap::sift::least_of_few` meets its contract.
use mathlib.Core.Path.{refl}
use native.Mathlib.Omega.{arith}
use Rattle.heap.proofs.Rows.{lowest_one, lowest_left, lowest_right}
use Rattle.heap.proofs.sift.least_of_few.Goals as goal
use Rattle.heap.proofs.sift.least_of_few.Goals.{then-key_at, else-key_at}

pub loop-seat-preserved : goal.loop-seat-preserved
loop-seat-preserved c =
    let low = c.loop-seat.invariant in
    let own = c.key_at.ensures in
    let least = c.key_at-in-loop-seat.ensures in
    elim c.if-key_at.branch [
      | then-key_at w ↦ rw w.least-is (lowest_right low (lowest_one _ refl) (omega (arith, own, least, w.if-key_at.true)))
      | else-key_at w ↦ rw w.least-is (lowest_left low (lowest_one _ refl) (omega (arith, own, least, w.if-key_at.false)))
    ]
