-- `replay::moves::read_moves` meets its contract.
use mathlib.Core.Path.{refl, ap}
use native.Mathlib.Omega.{arith}
use Rattle.rules.specs.Structs.{tech_by}
use Rattle.rules.proofs.Fitting.{fits}
use Rattle.counts.proofs.Counting.{fit_under}
use Rattle.replay.proofs.Parts.{passed_same}
use Rattle.replay.proofs.Walking.{move_fits, walking_begun, walking_refused, walking_on, walking_done}
use Rattle.replay.proofs.moves.read_moves.Goals as goal

pub vertex_by-first-requires : goal.vertex_by-first-requires
vertex_by-first-requires c = record { small = c.args.prices.now.fits.sized.small; there = c.requires.1 }

pub loop-after-init : goal.loop-after-init
loop-after-init c =
    walking_begun _ _ _ _ _ _ _ _ _ c.walk_from-walk.ensures (ap (λ x. x.layer) c.vertex_by-first.ensures) c.requires.1 c.requires.4

pub judge_move-requires : goal.judge_move-requires
judge_move-requires c =
    let pre = c.requires in
    let inv = c.loop-after.invariant in
    (record { place = inv.made.place }, omega (arith, inv.next, pre.2, pre.3))

pub enter_move-requires : goal.enter_move-requires
unfolding tech_by
enter_move-requires c =
    let good = c.args.prices.now.fits in
    let pre = c.requires in
    let inv = c.loop-after.invariant in
    let new = move_fits _ _ _ _ _ _ _ _ _ inv c.loop-after-test.true _ _ c.judge_move.ensures c.in_ok-made.was good in
    (good.sized, inv.made.place.vertex, new.place.vertex, omega (arith, pre.0, inv.size))

pub count_move-layer-requires : goal.count_move-layer-requires
unfolding tech_by
count_move-layer-requires c =
    let good = c.args.prices.now.fits in
    let pre = c.requires in
    let inv = c.loop-after.invariant in
    let new = move_fits _ _ _ _ _ _ _ _ _ inv c.loop-after-test.true _ _ c.judge_move.ensures c.in_ok-made.was good in (
      good.sized,
      rw inv.level (fits _ _ (record { small = good.sized.small; there = inv.made.place.vertex })).layer,
      new.place.vertex,
      omega (arith, new.added),
      omega (arith, new.penalties),
      fit_under _ inv.small (omega (arith, inv.next, pre.2, pre.3)),
    )

pub walk_on-walk-requires : goal.walk_on-walk-requires
walk_on-walk-requires c =
    let pre = c.requires in
    let inv = c.loop-after.invariant in
    let new = move_fits _ _ _ _ _ _ _ _ _ inv c.loop-after-test.true _ _ c.judge_move.ensures c.in_ok-made.was c.args.prices.now.fits in (
      omega (arith, inv.made.cost, pre.2),
      omega (arith, inv.made.added, pre.2),
      omega (arith, inv.made.penalties, pre.2),
      omega (arith, new.price),
      omega (arith, new.price),
      omega (arith, new.added),
      omega (arith, new.penalties),
    )

pub returns-in_err-made : goal.returns-in_err-made
returns-in_err-made c =
    let all = walking_refused _ _ _ _ _ _ _ _ _ c.loop-after.invariant c.loop-after-test.true c.judge_move.ensures refl c.in_err-made.was in
    rw (passed_same c.from_residual.ensures) (record { answer = all.0; fits = all.1.0; spots = all.1.1.0; map = all.1.1.1.0; counts = all.1.1.1.1 })

pub loop-after-preserved : goal.loop-after-preserved
loop-after-preserved c =
    let entered = c.enter_move.ensures in
    walking_on _ _ _ _ _ _ _ _ _ c.loop-after.invariant c.loop-after-test.true _ _ c.judge_move.ensures c.in_ok-made.was c.args.prices.now.fits refl
    entered.spots entered.map c.walk_on-walk.ensures (c.count_move-layer.ensures.counts _ c.loop-after.invariant.level) c.count_move-layer.ensures.layer

pub returns : goal.returns
returns c =
    let all = walking_done _ _ _ _ _ _ _ _ _ c.loop-after.invariant c.loop-after-test.false c.requires.2 in
    record { answer = all.0; fits = all.1.0; spots = all.1.1.0; map = all.1.1.1.0; counts = all.1.1.1.1 }
