-- `metal::pins::lay_all_pins` meets its contract: the pins of the nets before are laid, over what was found.
use Rattle.job.specs.Structs.{grid_of}
use Rattle.metal.proofs.First.{PinsLaid}
use Rattle.metal.proofs.pins.lay_all_pins.Given as goal

abbrev pub invariant-loop-before : goal.invariant-loop-before
invariant-loop-before l = PinsLaid l.s (grid_of l.grid) l.initial.map l.map l.pins l.at l.before l.nets
