-- `heap::sift::sift_down` meets its contract.
use Rattle.std.proofs.Common.{Some}
use Rattle.heap.specs.Sifts.{Sinks}
use Rattle.heap.proofs.Sifting.{falling_held, falling_asked, falling_on, falling_put, falling_done}
use Rattle.heap.proofs.sift.sift_down.Goals as goal

pub lesser_below-requires : goal.lesser_below-requires
lesser_below-requires c = falling_held c.loop-down.invariant

pub shift-requires : goal.shift-requires
unfolding Sinks
shift-requires c = let below : Sinks _ _ _ _ _ (Some c.in-Some.down) = c.in-Some.ensures in falling_asked c.loop-down.invariant below.0

pub loop-down-preserved : goal.loop-down-preserved
loop-down-preserved c = falling_on c.loop-down.invariant c.in-Some.ensures c.shift.ensures

pub put-requires : goal.put-requires
put-requires c = falling_put c.loop-down.invariant

pub returns : goal.returns
returns c = falling_done c.loop-down.invariant (rw c.in_default.is at c.lesser_below.ensures) c.put.ensures
