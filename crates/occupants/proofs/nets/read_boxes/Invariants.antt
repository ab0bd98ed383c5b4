-- `occupants::nets::read_boxes` meets its contract: reading the boxes that are left is reading all of them.
use Rattle.bits.specs.Bits.{bits_of}
use Rattle.job.specs.Structs.{grid_of}
use Rattle.occupants.proofs.BoxTurns.{BoxesLeft}
use Rattle.occupants.proofs.nets.read_boxes.Given as goal

abbrev pub invariant-loop-box : goal.invariant-loop-box
invariant-loop-box l = BoxesLeft (bits_of l.s) (grid_of l.grid) l.count l.from l._box l.at
