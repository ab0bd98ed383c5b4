-- `metal::pins::lay_pins` meets its contract: so many pins are laid, and laying the rest gives all.
use Rattle.metal.proofs.Turns.{Laying}
use Rattle.metal.proofs.pins.lay_pins.Given as goal

abbrev pub invariant-loop-pin : goal.invariant-loop-pin
invariant-loop-pin l = Laying l.net l.pins l.initial.map l.pin-index l.map
