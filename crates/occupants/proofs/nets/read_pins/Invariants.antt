-- `occupants::nets::read_pins` meets its contract: reading the pins that are left is reading all of them.
use Rattle.bits.specs.Bits.{bits_of}
use Rattle.job.specs.Structs.{grid_of}
use Rattle.occupants.proofs.PinTurns.{PinsLeft}
use Rattle.occupants.proofs.nets.read_pins.Given as goal

abbrev pub invariant-loop-pin : goal.invariant-loop-pin
invariant-loop-pin l = PinsLeft (bits_of l.s) (grid_of l.grid) l.count l.from l.initial.occupants l._pin l.at l.occupants
