-- `joins::join::write_join` meets its contract.
use native.Mathlib.Omega.{arith}
use Rattle.rules.specs.Structs.{tech_by}
use Rattle.joins.specs.Traces.{Told}
use Rattle.joins.proofs.Joining.{record_put, start_led, written_none, written_first}
use Rattle.joins.proofs.join.write_join.Goals as goal

pub returns-in_default : goal.returns-in_default
unfolding tech_by Told
returns-in_default c = written_none _ _ _ _ _ _ (rw c.in_default.is at c.requires.0) c.put_none.ensures

pub count_moves-count-requires : goal.count_moves-count-requires
unfolding Told
count_moves-count-requires c =
    let pre = c.requires in
    let (bounds, charted, lowest) = rw c.in-Some.is at pre.0 in
    ((bounds, _, charted), lowest)

pub put_start-requires : goal.put_start-requires
unfolding tech_by Told
put_start-requires c =
    let pre = c.requires in
    let (bounds, charted, lowest) = rw c.in-Some.is at pre.0 in
    let f = start_led _ _ _ c.args.prices.now.fits.good charted lowest in
    (record { small = c.args.prices.now.fits.sized.small; there = f.below }, omega (arith, pre.2))

pub write_moves-walk-requires : goal.write_moves-walk-requires
unfolding Told
write_moves-walk-requires c =
    let pre = c.requires in
    let (bounds, charted, lowest) = rw c.in-Some.is at pre.0 in
    let counted = c.count_moves-count.ensures in
    ((bounds, _, charted), lowest, pre.1, omega (arith, pre.2), counted.few, counted.counted)

pub returns : goal.returns
unfolding tech_by Told
returns c =
    let pre = c.requires in
    let (bounds, charted, lowest) = rw c.in-Some.is at pre.0 in
    let f = start_led _ _ _ c.args.prices.now.fits.good charted lowest in
    let counted = c.count_moves-count.ensures.counted in
    let walked = c.write_moves-walk.ensures in
    written_first _ _ _ _ _ _ f.record_is f.few counted walked.walk walked.fits walked.spots walked.map
    (record_put _ _ _ _ _ _ counted c.put_start.ensures walked.plan c.put_cost.ensures)
