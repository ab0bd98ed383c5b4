-- `views::sight::open_pins` meets its contract.
use native.Mathlib.Omega.{arith}
use Rattle.views.proofs.Opening.{pins_begin, pin-within, pins_turn, pins_end}
use Rattle.views.proofs.sight.open_pins.Goals as goal

pub loop-pin-init : goal.loop-pin-init
loop-pin-init c = pins_begin _ _ _ _ c.requires.0 c.requires.1

pub bounds-seen-pin : goal.bounds-seen-pin
bounds-seen-pin c = (pin-within c.loop-pin.invariant c.loop-pin-test.true).0

pub offset_bounds-map-pin : goal.offset_bounds-map-pin
offset_bounds-map-pin c = omega (arith, (pin-within c.loop-pin.invariant c.loop-pin-test.true).0)

pub bounds-map-pin : goal.bounds-map-pin
bounds-map-pin c = (pin-within c.loop-pin.invariant c.loop-pin-test.true).1

pub bounds-seen-pin-in-loop-pin : goal.bounds-seen-pin-in-loop-pin
bounds-seen-pin-in-loop-pin c = (pin-within c.loop-pin.invariant c.loop-pin-test.true).0

pub loop-pin-preserved : goal.loop-pin-preserved
loop-pin-preserved c = rw c.own_byte.ensures (pins_turn c.loop-pin.invariant c.loop-pin-test.true)

pub returns : goal.returns
returns c = pins_end c.loop-pin.invariant c.loop-pin-test.false
