-- `joins::write::write_moves` meets its contract.
use Prim.Native.Nat.{◌+◌, ◌-◌, ◌<◌}
use mathlib.Core.Path.{◌≡◌, refl}
use native.Mathlib.Omega.{arith}
use Rattle.rules.specs.Structs.{tech_by}
use Rattle.joins.proofs.Writing.{begun_at, writing_begun, writing_number, writing_legal, writing_fits, writing_on, writing_done}
use Rattle.joins.proofs.write.write_moves.Goals as goal

pub loop-turn-init : goal.loop-turn-init
loop-turn-init c =
    let pre = c.requires in
    let (bounds, best, charted) = pre.0 in
    let begun = c.walk_from-walk.ensures in
    let all : c.args.route.count - 0 ≡ c.args.route.count = omega arith in
    (bounds, best, charted, rw all (writing_begun _ _ _ _ _ _ _ _ _ _ _ begun (begun_at begun) c.args.prices.now.fits charted pre.1 pre.5))

pub led_move-led-requires : goal.led_move-led-requires
led_move-led-requires c =
    let pre = c.requires in
    let (bounds, best, charted, inv) = c.loop-turn.invariant in
    let some : 0 < c.args.route.count - c.loop-turn._turn = omega arith in
    let number = writing_number _ _ _ _ _ _ _ _ _ _ _ inv some c.args.prices.now.fits charted refl in
    (charted.room, inv.made.place, writing_legal _ _ _ _ _ _ _ _ _ _ _ inv some number)

pub enter_move-requires : goal.enter_move-requires
unfolding tech_by
enter_move-requires c =
    let so_far = c.loop-turn.invariant in
    let charted = so_far.2 in
    let inv = so_far.3 in
    let some : 0 < c.args.route.count - c.loop-turn._turn = omega arith in
    let pre = c.requires in
    let number = writing_number _ _ _ _ _ _ _ _ _ _ _ inv some c.args.prices.now.fits charted c.led_move-led.ensures.number in
    let new = writing_fits _ _ _ _ _ _ _ _ _ _ _ inv some number _ c.led_move-led.ensures.stepped c.args.prices.now.fits in
    (c.args.prices.now.fits.sized, inv.made.place.vertex, new.place.vertex, omega (arith, pre.2, inv.size))

pub walk_on-walk-requires : goal.walk_on-walk-requires
walk_on-walk-requires c =
    let so_far = c.loop-turn.invariant in
    let charted = so_far.2 in
    let inv = so_far.3 in
    let some : 0 < c.args.route.count - c.loop-turn._turn = omega arith in
    let pre = c.requires in
    let number = writing_number _ _ _ _ _ _ _ _ _ _ _ inv some c.args.prices.now.fits charted c.led_move-led.ensures.number in
    let new = writing_fits _ _ _ _ _ _ _ _ _ _ _ inv some number _ c.led_move-led.ensures.stepped c.args.prices.now.fits in (
      omega (arith, inv.made.cost, pre.4),
      omega (arith, inv.made.added, pre.4),
      omega (arith, inv.made.penalties, pre.4),
      omega (arith, new.price),
      omega (arith, new.price),
      omega (arith, new.added),
      omega (arith, new.penalties),
    )

pub loop-turn-preserved : goal.loop-turn-preserved
loop-turn-preserved c =
    let so_far = c.loop-turn.invariant in
    let entered = c.enter_move.ensures in
    let written = c.put-cursor.ensures in
    let charted = so_far.2 in
    let inv = so_far.3 in
    let some : 0 < c.args.route.count - c.loop-turn._turn = omega arith in
    let pre = c.requires in
    let number = writing_number _ _ _ _ _ _ _ _ _ _ _ inv some c.args.prices.now.fits charted c.led_move-led.ensures.number in
    let one : c.args.route.count - (c.loop-turn._turn + 1) ≡ c.args.route.count - c.loop-turn._turn - 1 = omega arith in
    (so_far.0, so_far.1, charted, rw one (writing_on _ _ _ _ _ _ _ _ _ _ _ inv some number _ c.led_move-led.ensures.stepped c.args.prices.now.fits charted entered.spots entered.map written.1 written.0 c.walk_on-walk.ensures))

pub returns : goal.returns
returns c =
    let begun = begun_at c.walk_from-walk.ensures in
    let all = writing_done _ _ _ _ _ _ _ _ _ _ _ c.loop-turn.invariant.3 (omega arith) c.requires.4 in
    record {
      walk = rw begun at all.0;
      fits = all.1.0;
      spots = rw begun at all.1.1.0;
      map = rw begun at all.1.1.1.0;
      plan = rw begun at all.1.1.1.1;
    }
