-- `views::sight::open_pins` meets its contract: opening the pins that are left gives what opening all of them
-- gives.
use Rattle.views.proofs.Opening.{PinsToOpen}
use Rattle.views.proofs.sight.open_pins.Given as goal

abbrev pub invariant-loop-pin : goal.invariant-loop-pin
invariant-loop-pin l = PinsToOpen l.net l.map l.pins l.initial.seen l.seen l.pin-index
