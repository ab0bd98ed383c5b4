-- `heap::sift::sift_down` meets its contract: with the item in the hole the order holds everywhere but right
-- below. The seat grows.
use Prim.Native.Nat.{◌-◌}
use Rattle.heap.specs.Sifts.{placed}
use Rattle.heap.proofs.Sifting.{Falling}
use Rattle.heap.proofs.sift.sift_down.Given as goal

abbrev pub invariant-loop-down : goal.invariant-loop-down
invariant-loop-down l = Falling l.n l.size l.item l.key (placed l.initial.work l.n l.from l.item l.key) l.work l.at

abbrev pub decreases-loop-down : goal.decreases-loop-down
decreases-loop-down l = l.size - l.at
