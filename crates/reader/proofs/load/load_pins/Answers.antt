-- `reader::load::load_pins` meets its contract.
use Prim.Native.Nat.{◌+◌, ◌*◌}
use mathlib.Core.Path.{◌∙◌}
use native.Mathlib.Omega.{arith}
use Rattle.reader.proofs.LoadTurns.{present, vertex_whole, vertex_told, vertex_fields_lem, pins_begin, pins_turn, pins_end}
use Rattle.reader.proofs.load.load_pins.Goals as goal

pub loop-pin-init : goal.loop-pin-init
loop-pin-init c = pins_begin _ _ _ _ _

pub unwrap-vertex-requires : goal.unwrap-vertex-requires
unwrap-vertex-requires c = present _ (c.vertex_group.ensures ∙ vertex_whole _ _ (omega arith))

pub number-requires : goal.number-requires
number-requires c =
    let stands = vertex_told c.args.s.now (c.args.from + 19 * c.loop-pin.pin) (omega arith) c.vertex_group.ensures c.unwrap-vertex.ensures in
    (c.requires.0, rw stands (vertex_fields_lem _ _))

pub loop-pin-preserved : goal.loop-pin-preserved
loop-pin-preserved c =
    let stands = vertex_told c.args.s.now (c.args.from + 19 * c.loop-pin.pin) (omega arith) c.vertex_group.ensures c.unwrap-vertex.ensures in
    pins_turn c.loop-pin-test.true c.loop-pin.invariant stands c.number.ensures

pub returns : goal.returns
returns c = pins_end c.loop-pin-test.false c.loop-pin.invariant
