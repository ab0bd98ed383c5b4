-- `reader::load::load_net` meets its contract: the net's head stands at the bit, and the bits of all that it
-- counts are there.
use mathlib.Core.Path.{sym, ◌∙◌}
use native.Mathlib.Omega.{arith}
use Rattle.reader.specs.Loading.{pins_loaded, boxes_loaded}
use Rattle.reader.proofs.LoadTurns.{present, net_head_there, net_whole, net_there}
use Rattle.reader.proofs.load.load_net.Goals as goal

pub net_group-requires : goal.net_group-requires
net_group-requires c = omega (arith, net_head_there c.args.s.now c.args.at c.requires.2)

pub unwrap-net-requires : goal.unwrap-net-requires
unwrap-net-requires c = present _ (c.net_group.ensures ∙ net_whole _ _ c.requires.2)

pub overflow_add-boxes_at : goal.overflow_add-boxes_at
overflow_add-boxes_at c =
    omega (arith, net_there _ _ c.requires.2 (sym c.net_group.ensures ∙ c.unwrap-net.ensures), c.requires.1)

pub overflow_mul-boxes_at : goal.overflow_mul-boxes_at
overflow_mul-boxes_at c =
    omega (arith, net_there _ _ c.requires.2 (sym c.net_group.ensures ∙ c.unwrap-net.ensures), c.requires.1)

pub overflow_add-boxes_at-2 : goal.overflow_add-boxes_at-2
overflow_add-boxes_at-2 c =
    omega (arith, net_there _ _ c.requires.2 (sym c.net_group.ensures ∙ c.unwrap-net.ensures), c.requires.1)

pub overflow_add-at : goal.overflow_add-at
overflow_add-at c =
    omega (arith, net_there _ _ c.requires.2 (sym c.net_group.ensures ∙ c.unwrap-net.ensures), c.requires.1)

pub load_pins-requires : goal.load_pins-requires
load_pins-requires c =
    let h = net_there _ _ c.requires.2 (sym c.net_group.ensures ∙ c.unwrap-net.ensures) in
    let pre = c.requires in
    (pre.0, h.pins, pre.1, omega (arith, h.end))

pub load_boxes-requires : goal.load_boxes-requires
load_boxes-requires c =
    let h = net_there _ _ c.requires.2 (sym c.net_group.ensures ∙ c.unwrap-net.ensures) in
    (h.boxes, c.requires.1, h.end)

pub overflow_mul-result : goal.overflow_mul-result
overflow_mul-result c =
    omega (arith, net_there _ _ c.requires.2 (sym c.net_group.ensures ∙ c.unwrap-net.ensures), c.requires.1)

pub overflow_add-result : goal.overflow_add-result
overflow_add-result c =
    omega (arith, net_there _ _ c.requires.2 (sym c.net_group.ensures ∙ c.unwrap-net.ensures), c.requires.1)

pub returns : goal.returns
unfolding pins_loaded boxes_loaded
returns c =
    let h = net_there _ _ c.requires.2 (sym c.net_group.ensures ∙ c.unwrap-net.ensures) in
    record {
      counts = sym h.loaded;
      pins = rw h.loaded c.load_pins.ensures;
      boxes = rw h.loaded c.load_boxes.ensures;
    }
