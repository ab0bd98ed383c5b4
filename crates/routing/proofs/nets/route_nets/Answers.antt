-- `routing::nets::route_nets` meets its contract.
use Prim.Native.Nat.{ℕ, ◌+◌, ◌-◌, ◌<◌}
use mathlib.Core.Path.{◌≡◌, refl, ap, ◌∙◌}
use mathlib.Core.List.{List}
use native.Mathlib.Omega.{arith}
use lib.ListN.{length}
use Rattle.rules.specs.Structs.{tech_by}
use Rattle.walker.proofs.Nets.{nets_sized, nets_room, nets_kept, net_below, hand_held, pins_fit, pins_below, boxes_few}
use Rattle.rules.proofs.Routes.{totals_none}
use Rattle.routing.proofs.Netting.{netting_begun, netting_on, netting_done, fits_all, bounded_next}
use Rattle.routing.proofs.nets.route_nets.Goals as goal

pub loop-index-init : goal.loop-index-init
loop-index-init c =
    let all : c.args.nets - 0 ≡ c.args.nets = omega arith in
    let (none, start) = c.default-routed.ensures in
    (rw (all, start) (netting_begun _ _ _ _ _ c.requires.0 refl refl (totals_none none)), refl)

pub load_net-loaded-requires : goal.load_net-loaded-requires
load_net-loaded-requires c =
    let inv = c.loop-index.invariant.0 in
    let fits = nets_sized _ _ _ _ inv.held in
    (fits.sized.small, fits.short, (hand_held _ _ _ _ _ inv.nets (omega arith)).room)

pub overflow_cast-net : goal.overflow_cast-net
overflow_cast-net c = omega (arith, net_below _ _ _ _ _ c.loop-index.invariant.0.nets (omega arith))

pub overflow_add-net : goal.overflow_add-net
overflow_add-net c = omega (arith, net_below _ _ _ _ _ c.loop-index.invariant.0.nets (omega arith))

pub see_net-requires : goal.see_net-requires
see_net-requires c =
    let inv = c.loop-index.invariant.0 in
    let some : 0 < c.args.nets - c.loop-index.index = omega arith in
    let loaded = c.load_net-loaded.ensures in
    let own = pins_fit _ _ _ _ _ inv.nets some loaded.counts loaded.pins loaded.boxes in
    record {
      sized = (
        (nets_sized _ _ _ _ inv.held).sized,
        nets_room _ _ _ _ _ inv.nets,
        own.few,
        boxes_few _ _ _ _ _ inv.nets some loaded.counts loaded.pins loaded.boxes,
      );
      all = pins_below _ _ _ _ _ inv.nets some loaded.counts loaded.pins loaded.boxes;
    }

pub route_net-routed-requires : goal.route_net-routed-requires
unfolding tech_by
route_net-routed-requires c =
    let inv = c.loop-index.invariant in
    let pre = c.requires in
    let some : 0 < c.args.nets - c.loop-index.index = omega arith in
    let loaded = c.load_net-loaded.ensures in
    rw c.prices_of-prices.ensures (
      rw inv.1 pre.1,
      nets_room _ _ _ _ _ inv.0.nets,
      pins_fit _ _ _ _ _ inv.0.nets some loaded.counts loaded.pins loaded.boxes,
      omega (arith, net_below _ _ _ _ _ inv.0.nets some),
      bounded_next _ _ _ _ _ inv.0,
      pins_below _ _ _ _ _ inv.0.nets some loaded.counts loaded.pins loaded.boxes,
    )

pub loop-index-preserved : goal.loop-index-preserved
loop-index-preserved c =
    let inv = c.loop-index.invariant in
    let loaded = c.load_net-loaded.ensures in
    let routed = c.route_net-routed.ensures in
    let one : c.args.nets - (c.loop-index.index + 1) ≡ c.args.nets - c.loop-index.index - 1 = omega arith in (
      rw one (netting_on _ _ _ _ _ inv.0 (omega arith) loaded.counts loaded.pins loaded.boxes _ c.see_net.ensures _ (rw c.prices_of-prices.ensures at routed.answer) routed.fits c.route_net-routed.auto.plan),
      routed.work ∙ inv.1,
    )

pub prices_of-prices-requires : goal.prices_of-prices-requires
prices_of-prices-requires c = c.requires.0.fits

pub shape_of-map : goal.shape_of-map
shape_of-map c = (nets_kept _ _ _ _ _ c.loop-index.invariant.0.nets).size

pub shape_of-work : goal.shape_of-work
shape_of-work c = ap (λ (l : List ℕ). length l) c.loop-index.invariant.1

pub shape_of-plan : goal.shape_of-plan
shape_of-plan c = c.loop-index.invariant.0.long

pub returns : goal.returns
returns c =
    let inv = c.loop-index.invariant in
    record {
      answer = netting_done _ _ _ _ _ inv.0 (omega arith);
      fits = fits_all _ _ _ _ _ inv.0;
      work = inv.1;
    }
