-- `search::settle::settle` meets its contract.
use native.Mathlib.Omega.{arith}
use Rattle.metal.proofs.Slices.{beyond_refl, beyond_trans}
use Rattle.rules.specs.Structs.{tech_by}
use Rattle.search.proofs.Settling.{between-begun, between_on, ended_none, ended_best, least_asked, least_some, removed_room, removed_turn, removed_kept}
use Rattle.search.proofs.settle.settle.Goals as goal

pub seed-requires : goal.seed-requires
seed-requires c = c.requires.0

pub loop-front-init : goal.loop-front-init
unfolding tech_by
loop-front-init c =
    let seeded = c.seed.ensures in
    (between-begun _ _ _ c.args.prices.now.fits.good seeded.laid seeded.seeded c.requires.1, beyond_refl _ _)

pub key_at-top-requires : goal.key_at-top-requires
key_at-top-requires c = least_asked c.places-n.ensures c.loop-front.invariant.0 c.loop-front-test.true

pub overflow_sub-top : goal.overflow_sub-top
overflow_sub-top c = least_some c.places-n.ensures c.loop-front.invariant.0 c.loop-front-test.true c.key_at-top.ensures

pub overflow_mul-ended : goal.overflow_mul-ended
overflow_mul-ended c = omega (arith, c.loop-front.invariant.0.spread.bound)

pub returns-then-ended : goal.returns-then-ended
returns-then-ended c =
    let counted = c.places-n.ensures in
    let key = c.key_at-top.ensures in
    let inv = c.loop-front.invariant in
    let one = least_some counted inv.0 c.loop-front-test.true key in
    record {
      found = rw c.cheapest.ensures.is (ended_best _ _ _ c.args.prices.now.fits.good inv.0 counted one key (omega (arith, c.if-ended.true)));
      below = c.cheapest.ensures.below;
      kept = beyond_trans inv.1 c.seed.ensures.kept;
    }

pub cheapest-requires : goal.cheapest-requires
cheapest-requires c = c.loop-front.invariant.0.spread.bound

pub cheapest-requires-2 : goal.cheapest-requires-2
cheapest-requires-2 c = c.loop-front.invariant.0.spread.bound

pub settle_next-item-requires : goal.settle_next-item-requires
settle_next-item-requires c =
    let counted = c.places-n.ensures in
    let some = c.loop-front-test.true in
    let inv = c.loop-front.invariant in
    (rw counted inv.0.laid.heaped, some, removed_room counted inv.0 some)

pub overflow_add-settled : goal.overflow_add-settled
overflow_add-settled c =
    let counted = c.places-n.ensures in
    let inv = c.loop-front.invariant in
    omega (arith, removed_room counted inv.0 c.loop-front-test.true, inv.0.laid.heaped.seated.few, counted)

pub overflow_sub-rest : goal.overflow_sub-rest
overflow_sub-rest c = c.loop-front-test.true

pub reach_all-front-requires : goal.reach_all-front-requires
reach_all-front-requires c =
    let (distance, top, turn) = removed_turn c.places-n.ensures c.loop-front.invariant.0 c.loop-front-test.true c.settle_next-item.ensures c.args.prices.now.fits.good c.key_at-top.ensures in
    ((_, distance, top, turn), c.requires.2)

pub loop-front-smaller : goal.loop-front-smaller
loop-front-smaller c = omega (arith, removed_room c.places-n.ensures c.loop-front.invariant.0 c.loop-front-test.true)

pub loop-front-preserved : goal.loop-front-preserved
loop-front-preserved c =
    let counted = c.places-n.ensures in
    let some = c.loop-front-test.true in
    let removed = c.settle_next-item.ensures in
    let reached = c.reach_all-front.ensures in
    let fine = c.args.prices.now.fits.good in
    let inv = c.loop-front.invariant in
    let (distance, top, turn) = removed_turn counted inv.0 some removed fine c.key_at-top.ensures in
    let kept = removed_kept counted inv.0 some removed in
    (between_on _ _ _ fine (reached.turned _ distance top turn), beyond_trans reached.kept (beyond_trans (rw counted at kept) inv.1))

pub returns : goal.returns
returns c =
    let inv = c.loop-front.invariant in
    record {
      found = rw c.cheapest-2.ensures.is (ended_none _ _ _ c.args.prices.now.fits.good inv.0 c.loop-front-test.false);
      below = c.cheapest-2.ensures.below;
      kept = beyond_trans inv.1 c.seed.ensures.kept;
    }
