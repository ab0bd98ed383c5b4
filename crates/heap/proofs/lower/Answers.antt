-- `heap::lower` meets its contract: the item is new, or no better, or settled, or better.
use native.Mathlib.Omega.{arith}
use Rattle.heap.specs.Heaps.{key_of, slot_of}
use Rattle.heap.proofs.Lowering.{new_lifted, new_lowered, better_lifted, better_lowered}
use Rattle.heap.proofs.lower.Goals as goal

pub sift_up-requires : goal.sift_up-requires
unfolding key_of
sift_up-requires c =
    let pre = c.requires in
    new_lifted _ pre.0 pre.1 c.if-key-eq0.true pre.2

pub returns-then-key-eq0 : goal.returns-then-key-eq0
unfolding key_of
returns-then-key-eq0 c =
    let pre = c.requires in
    new_lowered _ pre.0 pre.1 c.if-key-eq0.true c.sift_up.ensures

pub sift_up-requires-2 : goal.sift_up-requires-2
unfolding key_of slot_of
sift_up-requires-2 c =
    let pre = c.requires in
    better_lifted _ pre.0 pre.1 (record { touched = omega (arith, c.if-key-eq0.false); placed = omega (arith, c.if-n-slot.false) }) (omega (arith, c.if-key-distance.false))

pub returns : goal.returns
unfolding key_of slot_of
returns c =
    let pre = c.requires in
    better_lowered _ pre.0 pre.1 (record { touched = omega (arith, c.if-key-eq0.false); placed = omega (arith, c.if-n-slot.false) }) (omega (arith, c.if-key-distance.false)) c.sift_up-2.ensures
