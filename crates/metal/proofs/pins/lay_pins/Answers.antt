-- `metal::pins::lay_pins` meets its contract.
use Rattle.metal.proofs.Turns.{laying_begun, laying_below, laying_on, laying_done}
use Rattle.metal.proofs.pins.lay_pins.Goals as goal

pub loop-pin-init : goal.loop-pin-init
loop-pin-init c = laying_begun c.requires

pub lay-requires : goal.lay-requires
lay-requires c = laying_below c.loop-pin.invariant c.loop-pin-test.true

pub loop-pin-preserved : goal.loop-pin-preserved
loop-pin-preserved c = laying_on c.loop-pin.invariant c.loop-pin-test.true c.lay.ensures

pub shape_of-map : goal.shape_of-map
shape_of-map c = c.loop-pin.invariant.size

pub returns : goal.returns
returns c = laying_done c.loop-pin.invariant c.loop-pin-test.false
