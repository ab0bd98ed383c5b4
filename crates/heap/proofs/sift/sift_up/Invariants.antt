-- `heap::sift::sift_up` meets its contract: with the item in the hole the order holds everywhere but there.
-- The seat falls.
use Rattle.heap.specs.Sifts.{placed}
use Rattle.heap.proofs.Sifting.{Climbing}
use Rattle.heap.proofs.sift.sift_up.Given as goal

abbrev pub invariant-loop-up : goal.invariant-loop-up
invariant-loop-up l = Climbing l.n l.size l.item l.key (placed l.initial.work l.n l.from l.item l.key) l.work l.at

abbrev pub decreases-loop-up : goal.decreases-loop-up
decreases-loop-up l = l.at
