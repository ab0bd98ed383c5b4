-- `reader::load::load_boxes` meets its contract. The loop's invariant: the boxes stored so far, then the
-- numbers of those that are left, are all boxes.
use Rattle.bits.specs.Bits.{bits_of}
use Rattle.reader.proofs.LoadTurns.{BoxesToLoad}
use Rattle.reader.proofs.load.load_boxes.Given as goal

abbrev pub invariant-loop-place : goal.invariant-loop-place
invariant-loop-place l = BoxesToLoad (bits_of l.s) l.count l.from l.initial.boxes l.boxes l.place
