-- `search::retrace::retrace` meets its contract.
use native.Mathlib.Omega.{arith}
use Rattle.rules.specs.Structs.{tech_by}
use Rattle.search.proofs.Answering.{item_place}
use Rattle.search.proofs.Retracing.Places.{searched_by, retracing_begun}
use Rattle.search.proofs.Retracing.Next.{next_by, retracing_fits, retracing_read, retracing_asked, retracing_only}
use Rattle.search.proofs.Retracing.Turn.{retracing_on}
use Rattle.search.proofs.Retracing.Charted.{retracing_charted, retracing_lowest, retracing_kept}
use Rattle.search.proofs.retrace.retrace.Goals as goal

pub vertices-start-requires : goal.vertices-start-requires
vertices-start-requires c = c.args.prices.now.fits.sized.small

pub loop-left-init : goal.loop-left-init
unfolding tech_by
loop-left-init c =
    let pre = c.requires in
    rw c.vertices-start.ensures (retracing_begun (searched_by c.args.prices.now.fits.good pre.2 pre.1.1))

pub overflow_add-item : goal.overflow_add-item
overflow_add-item c =
    let pre = c.requires in
    let fits = retracing_fits (searched_by c.args.prices.now.fits.good pre.2 pre.1.1) c.loop-left.invariant c.loop-left-test.true in
    omega (arith, c.places-n.ensures, fits.1)

pub overflow_sub-item : goal.overflow_sub-item
overflow_sub-item c =
    let pre = c.requires in
    let fits = retracing_fits (searched_by c.args.prices.now.fits.good pre.2 pre.1.1) c.loop-left.invariant c.loop-left-test.true in
    omega (arith, c.places-n.ensures, fits.0)

pub overflow_sub-item-in-loop-left : goal.overflow_sub-item-in-loop-left
overflow_sub-item-in-loop-left c =
    let pre = c.requires in
    let fits = retracing_fits (searched_by c.args.prices.now.fits.good pre.2 pre.1.1) c.loop-left.invariant c.loop-left-test.true in
    omega (arith, c.places-n.ensures, fits.0)

pub offset_bounds-work-n : goal.offset_bounds-work-n
offset_bounds-work-n c =
    let pre = c.requires in
    let fits = retracing_fits (searched_by c.args.prices.now.fits.good pre.2 pre.1.1) c.loop-left.invariant c.loop-left-test.true in
    omega (arith, c.places-n.ensures, fits.0, fits.1)

pub bounds-work-n : goal.bounds-work-n
bounds-work-n c =
    let pre = c.requires in
    let fits = retracing_fits (searched_by c.args.prices.now.fits.good pre.2 pre.1.1) c.loop-left.invariant c.loop-left-test.true in
    omega (arith, c.places-n.ensures, fits.0, fits.2)

pub retrace_place-start-requires : goal.retrace_place-start-requires
retrace_place-start-requires c =
    let pre = c.requires in
    let found = searched_by c.args.prices.now.fits.good pre.2 pre.1.1 in
    let inv = c.loop-left.invariant in
    let more = c.loop-left-test.true in
    let fits = retracing_fits found inv more in
    let read = retracing_read found inv more c.places-n.ensures in
    let asked = retracing_asked found inv more read in
    let here = item_place c.args.prices.now.fits asked.0 in
    let only = retracing_only (next_by found inv more read here.0 here.1) in
    record { known = (asked.0, omega (arith, fits.2), inv.bytes, asked.1, asked.2, asked.3); by_index = only }

pub loop-left-preserved : goal.loop-left-preserved
loop-left-preserved c =
    let fits = c.args.prices.now.fits in
    let pre = c.requires in
    let found = searched_by fits.good pre.2 pre.1.1 in
    let inv = c.loop-left.invariant in
    let more = c.loop-left-test.true in
    let read = retracing_read found inv more c.places-n.ensures in
    let asked = retracing_asked found inv more read in
    let here = item_place fits asked.0 in
    retracing_on (next_by found inv more read here.0 here.1) c.retrace_place-start.ensures

pub shape_of-work : goal.shape_of-work
shape_of-work c = c.loop-left.invariant.long

pub returns : goal.returns
returns c =
    let pre = c.requires in
    let found = searched_by c.args.prices.now.fits.good pre.2 pre.1.1 in
    let inv = c.loop-left.invariant in
    let all = c.loop-left-test.false in
    record {
      charted = retracing_charted found inv all pre.0;
      start = retracing_lowest found inv all;
      laid = inv.laid;
      kept = retracing_kept found inv all;
    }
