-- `heap::sift::sift_up` meets its contract.
use Rattle.heap.proofs.Sifting.{climbing_held, climbing_asked, climbing_on, climbing_put, climbing_done}
use Rattle.heap.proofs.sift.sift_up.Goals as goal

pub greater_above-requires : goal.greater_above-requires
greater_above-requires c = climbing_held c.loop-up.invariant

pub shift-requires : goal.shift-requires
shift-requires c = climbing_asked c.loop-up.invariant c.in-Some.ensures

pub loop-up-preserved : goal.loop-up-preserved
loop-up-preserved c = climbing_on c.loop-up.invariant c.in-Some.ensures c.shift.ensures

pub put-requires : goal.put-requires
put-requires c = climbing_put c.loop-up.invariant

pub returns : goal.returns
returns c = climbing_done c.loop-up.invariant (rw c.in_default.is at c.greater_above.ensures) c.put.ensures
