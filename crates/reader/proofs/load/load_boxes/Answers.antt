-- `reader::load::load_boxes` meets its contract.
use Prim.Native.Nat.{◌+◌, ◌*◌}
use mathlib.Core.Path.{◌∙◌}
use native.Mathlib.Omega.{arith}
use Rattle.reader.proofs.LoadTurns.{present, box_whole, box_told, boxes_begin, boxes_turn, boxes_end}
use Rattle.reader.proofs.load.load_boxes.Goals as goal

pub loop-place-init : goal.loop-place-init
loop-place-init c = boxes_begin _ _ _ _

pub unwrap-b-requires : goal.unwrap-b-requires
unwrap-b-requires c = present _ (c.box_group.ensures ∙ box_whole _ _ (omega arith))

pub loop-place-preserved : goal.loop-place-preserved
loop-place-preserved c =
    let stands = box_told c.args.s.now (c.args.from + 38 * c.loop-place.place) (omega arith) c.box_group.ensures c.unwrap-b.ensures in
    boxes_turn c.loop-place-test.true c.loop-place.invariant stands c.store_box.ensures

pub returns : goal.returns
returns c = boxes_end c.loop-place-test.false c.loop-place.invariant
