-- `search::reach::reach_all` meets its contract.
use mathlib.Core.Path.{◌≡◌}
use native.Mathlib.Omega.{arith}
use Rattle.bounds.proofs.Coordinates.{vertex_fields_lem}
use Rattle.search.specs.Tries.{OwedFor}
use Rattle.search.proofs.Asking.{largest_asked, item_good, item_code, item_bound, vertex_here, vertex_on}
use Rattle.search.proofs.Turning.{trying_begun, trying_now, trying_small, trying_on, distance_by}
use Rattle.search.proofs.Reaching.{no_goals_lem}
use Rattle.search.proofs.reach.reach_all.Goals as goal

pub place_of-place-requires : goal.place_of-place-requires
place_of-place-requires c = largest_asked c.args.prices.now.fits c.requires.0.3.known

pub vertex_by-vertex-requires : goal.vertex_by-vertex-requires
vertex_by-vertex-requires c =
    let fits = c.args.prices.now.fits in
    vertex_on fits _ (item_good fits c.requires.0.3.known _ c.place_of-place.ensures)

pub of-requires : goal.of-requires
of-requires c =
    let fits = c.args.prices.now.fits in
    rw c.vertex_by-vertex.ensures (vertex_fields_lem _ _ (vertex_on fits _ (item_good fits c.requires.0.3.known _ c.place_of-place.ensures)))

pub overflow_sub-distance : goal.overflow_sub-distance
overflow_sub-distance c =
    let pre = c.requires in
    omega (arith, item_bound c.args.prices.now.fits pre.0.3.known _ c.place_of-place.ensures c.args.bounds.now.entries c.vertex_by-vertex.ensures c.of.ensures, pre.0.2)

pub loop-number-init : goal.loop-number-init
unfolding OwedFor
loop-number-init c =
    let pre = c.requires in
    let left = item_bound c.args.prices.now.fits pre.0.3.known _ c.place_of-place.ensures c.args.bounds.now.entries c.vertex_by-vertex.ensures c.of.ensures in
    (trying_begun _ _ _ _ _ _ _ _ _ _ (pre.0.0, rw (left, distance_by _ _ _ pre.0.2) pre.0.3), tt)

pub reach-reaching-requires : goal.reach-reaching-requires
reach-reaching-requires c =
    let fits = c.args.prices.now.fits in
    let inv = c.loop-number.invariant in
    let now = trying_now _ _ _ _ _ _ _ _ _ _ inv.0 in
    let on = item_good fits now.known _ c.place_of-place.ensures in (
      record { good = on; is = c.vertex_by-vertex.ensures; below = trying_small _ _ _ _ _ _ _ _ _ _ inv.0 fits.good },
      now.laid.heaped,
      inv.1,
      no_goals_lem now,
    )

pub loop-number-preserved : goal.loop-number-preserved
loop-number-preserved c =
    let fits = c.args.prices.now.fits in
    let placed = c.place_of-place.ensures in
    let reached = c.reach-reaching.ensures in
    let inv = c.loop-number.invariant in
    let now = trying_now _ _ _ _ _ _ _ _ _ _ inv.0 in
    let on = item_good fits now.known _ placed in
    (trying_on _ _ _ _ _ _ _ _ _ _ inv.0 fits.good c.requires.1 c.loop-number-test.true on (item_code fits now.known _ placed) (vertex_here fits _ on) reached.reached, reached.owed)

pub returns : goal.returns
returns c =
    let inv = c.loop-number.invariant.0 in
    let left = item_bound c.args.prices.now.fits c.requires.0.3.known _ c.place_of-place.ensures c.args.bounds.now.entries c.vertex_by-vertex.ensures c.of.ensures in
    let all : c.loop-number.number ≡ 4 = omega (arith, inv.few, c.loop-number-test.false) in
    record {
      turned = λ settled distance is. rw (left, distance_by _ _ distance is, all) at (inv.turns settled);
      kept = inv.kept;
    }
