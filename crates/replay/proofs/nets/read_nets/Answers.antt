-- `replay::nets::read_nets` meets its contract.
use Prim.Native.Nat.{ℕ, ◌-◌, ◌<◌}
use mathlib.Core.Path.{◌≡◌, refl}
use native.Mathlib.Omega.{arith}
use Rattle.rules.proofs.Routes.{totals_none}
use Rattle.replay.specs.Structs.{NetFits}
use Rattle.walker.proofs.Nets.{nets_sized, nets_room, nets_kept, net_below, hand_held, pins_fit, pins_below, boxes_few}
use Rattle.replay.proofs.Parts.{passed_same}
use Rattle.replay.proofs.Netting.{netting_begun, bounded_next, netting_refused, netting_kept, netting_on, netting_done, fits_all}
use Rattle.replay.proofs.nets.read_nets.Goals as goal

-- a net that is not read is left
some_left : {done nets : ℕ} → done < nets → 0 < nets - done
some_left h = omega (arith, h)

pub loop-done-init : goal.loop-done-init
loop-done-init c = let all : c.args.nets - 0 ≡ c.args.nets = omega arith in rw all (netting_begun _ _ _ _ _ _ _ c.requires.0 refl refl (totals_none c.default-totals.ensures) c.requires.1)

pub load_net-loaded-requires : goal.load_net-loaded-requires
load_net-loaded-requires c =
    let inv = c.loop-done.invariant in
    let fits = nets_sized _ _ _ _ inv.held in
    (fits.sized.small, fits.short, (hand_held _ _ _ _ _ inv.nets (some_left c.loop-done-test.true)).room)

pub overflow_cast-net : goal.overflow_cast-net
overflow_cast-net c = omega (arith, net_below _ _ _ _ _ c.loop-done.invariant.nets (some_left c.loop-done-test.true))

pub overflow_add-net : goal.overflow_add-net
overflow_add-net c = omega (arith, net_below _ _ _ _ _ c.loop-done.invariant.nets (some_left c.loop-done-test.true))

pub see_net-requires : goal.see_net-requires
see_net-requires c =
    let inv = c.loop-done.invariant in
    let some = some_left c.loop-done-test.true in
    let loaded = c.load_net-loaded.ensures in
    let own = pins_fit _ _ _ _ _ inv.nets some loaded.counts loaded.pins loaded.boxes in
    record {
      sized = (
        (nets_sized _ _ _ _ inv.held).sized,
        nets_room _ _ _ _ _ inv.nets,
        own.few,
        boxes_few _ _ _ _ _ inv.nets some loaded.counts loaded.pins loaded.boxes,
      );
      all = pins_below _ _ _ _ _ inv.nets some loaded.counts loaded.pins loaded.boxes;
    }

pub read_net-requires : goal.read_net-requires
read_net-requires c =
    let inv = c.loop-done.invariant in
    let some = some_left c.loop-done-test.true in
    let loaded = c.load_net-loaded.ensures in
    rw c.prices_of-prices.ensures (
      nets_room _ _ _ _ _ inv.nets,
      pins_fit _ _ _ _ _ inv.nets some loaded.counts loaded.pins loaded.boxes,
      omega (arith, net_below _ _ _ _ _ inv.nets some),
      bounded_next _ _ _ _ _ _ _ inv,
      inv.small,
    )

pub shape_of-map-in_err-ended : goal.shape_of-map-in_err-ended
shape_of-map-in_err-ended c =
    let inv = c.loop-done.invariant in
    let some = some_left c.loop-done-test.true in
    let loaded = c.load_net-loaded.ensures in
    let read = rw c.prices_of-prices.ensures at c.read_net.ensures in
    (netting_kept _ _ _ _ _ _ _ inv some loaded.counts loaded.pins loaded.boxes _ c.see_net.ensures _ _ read.answer read.map read.counts).size

pub returns-in_err-ended : goal.returns-in_err-ended
unfolding NetFits
returns-in_err-ended c =
    let inv = c.loop-done.invariant in
    let some = some_left c.loop-done-test.true in
    let seen = c.see_net.ensures in
    let read = rw c.prices_of-prices.ensures at c.read_net.ensures in
    let loaded = c.load_net-loaded.ensures in
    let both = netting_refused _ _ _ _ _ _ _ inv some loaded.counts loaded.pins loaded.boxes _ seen _ _ read.answer read.map read.counts c.in_err-ended.was in
    let kept = netting_kept _ _ _ _ _ _ _ inv some loaded.counts loaded.pins loaded.boxes _ seen _ _ read.answer read.map read.counts in
    rw (passed_same c.from_residual.ensures) (record {
      answer = λ j is. (both j is).0;
      fits = tt;
      kept = kept;
      counts = λ j is. (both j is).1;
    })

pub loop-done-preserved : goal.loop-done-preserved
loop-done-preserved c =
    let inv = c.loop-done.invariant in
    let some = some_left c.loop-done-test.true in
    let loaded = c.load_net-loaded.ensures in
    let read = rw c.prices_of-prices.ensures at c.read_net.ensures in
    netting_on _ _ _ _ _ _ _ inv some loaded.counts loaded.pins loaded.boxes _ c.see_net.ensures _ _ read.answer
    read.map read.counts c.in_ok-ended.was read.fits (omega arith)

pub shape_of-map : goal.shape_of-map
shape_of-map c = (nets_kept _ _ _ _ _ c.loop-done.invariant.nets).size

pub returns : goal.returns
returns c =
    let inv = c.loop-done.invariant in
    let both = netting_done _ _ _ _ _ _ _ inv (omega (arith, c.loop-done-test.false)) in
    record {
      answer = λ j is. (both j is).0;
      fits = fits_all _ _ _ _ _ _ _ inv;
      kept = nets_kept _ _ _ _ _ inv.nets;
      counts = λ j is. (both j is).1;
    }
