-- `bounds::fill::unjoined_box` meets its contract.
use Prim.Native.Nat.{◌<◌}
use mathlib.Core.Path.{◌≡◌, refl}
use lib.Seq.{get_or-take}
use native.Mathlib.Omega.{arith}
use Rattle.tree.proofs.Turns.{pin-count, pin_vertex}
use Rattle.bounds.specs.Fills.{unjoined_box}
use Rattle.bounds.proofs.Boxes.{pin_on_grid, box_turn, box_kept}
use Rattle.bounds.proofs.fill.unjoined_box.Goals as goal
use Rattle.bounds.proofs.fill.unjoined_box.Goals.{then-spots-pin-eq-UNJOINED, else-spots-pin-eq-UNJOINED}

pub loop-pin-init : goal.loop-pin-init
unfolding unjoined_box
loop-pin-init c = (omega arith, refl)

pub bounds-spots-pin : goal.bounds-spots-pin
bounds-spots-pin c =
    let on : c.loop-pin.pin-index < c.args.count = omega (arith, c.loop-pin-test.true, pin-count c.requires.1.there) in
    rw (get_or-take c.args.count c.args.pins.now c.loop-pin.pin-index 0 on) (pin_vertex c.requires.1.there on)

pub vertex_by-requires : goal.vertex_by-requires
vertex_by-requires c =
    let on : c.loop-pin.pin-index < c.args.count = omega (arith, c.loop-pin-test.true, pin-count c.requires.1.there) in
    let same = get_or-take c.args.count c.args.pins.now c.loop-pin.pin-index 0 on in
    record { small = c.requires.0; there = rw same (pin_on_grid _ _ _ c.requires.1 on) }

pub loop-pin-preserved : goal.loop-pin-preserved
loop-pin-preserved c =
    let loop = c.loop-pin in
    let i = loop.pin-index in
    let so_far = loop.invariant.1 in
    let on : i < c.args.count = omega (arith, c.loop-pin-test.true, pin-count c.requires.1.there) in
    let same = get_or-take c.args.count c.args.pins.now i 0 on in (
      omega (arith, on),
      elim c.if-spots-pin-eq-UNJOINED.branch [
        | then-spots-pin-eq-UNJOINED w ↦ rw w.around-is (box_turn _ _ _ i same so_far w.if-spots-pin-eq-UNJOINED.true w.vertex_by.ensures w.widened-around.ensures)
        | else-spots-pin-eq-UNJOINED w ↦ rw w.around-is (box_kept _ _ _ i same so_far w.if-spots-pin-eq-UNJOINED.false)
      ],
    )

pub returns : goal.returns
returns c =
    let inv = c.loop-pin.invariant in
    let done : c.loop-pin.pin-index ≡ c.args.count = omega (arith, inv.0, c.loop-pin-test.false, pin-count c.requires.1.there) in
    rw done at inv.1
