-- `reader::load::load_pins` meets its contract. The loop's invariant: the pins stored so far, then the
-- numbers of those that are left, are all pins.
use Rattle.bits.specs.Bits.{bits_of}
use Rattle.job.specs.Structs.{grid_of}
use Rattle.reader.proofs.LoadTurns.{PinsToLoad}
use Rattle.reader.proofs.load.load_pins.Given as goal

abbrev pub invariant-loop-pin : goal.invariant-loop-pin
invariant-loop-pin l = PinsToLoad (bits_of l.s) (grid_of l.grid) l.count l.from l.initial.pins l.pins l.pin
