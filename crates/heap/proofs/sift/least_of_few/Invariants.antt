-- `heap::sift::least_of_few` meets its contract: of the seats so far the one with the least key.
use Rattle.heap.specs.Sifts.{Lowest}
use Rattle.heap.proofs.sift.least_of_few.Given as goal

abbrev pub invariant-loop-seat : goal.invariant-loop-seat
invariant-loop-seat l = Lowest l.n l.first l.seat l.work l.least
