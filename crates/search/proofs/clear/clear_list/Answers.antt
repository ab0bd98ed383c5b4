-- `search::clear::clear_list` meets its contract.
use native.Mathlib.Omega.{arith}
use Rattle.search.proofs.Clearing.{clearing_begun, clearing_fits, clearing_on, list_named, list_read, list_cleared}
use Rattle.search.proofs.clear.clear_list.Goals as goal

pub loop-at-init : goal.loop-at-init
loop-at-init c = clearing_begun (list_named c.requires.1 c.requires.2 c.requires.3)

pub bounds-work-word : goal.bounds-work-word
bounds-work-word c = (clearing_fits c.loop-at.invariant c.loop-at-test.true).1

pub forget-requires : goal.forget-requires
forget-requires c =
    let inv = c.loop-at.invariant in
    let more = c.loop-at-test.true in
    let fits = clearing_fits inv more in
    (omega (arith, fits.0, list_read inv more), fits.1)

pub loop-at-preserved : goal.loop-at-preserved
loop-at-preserved c =
    let inv = c.loop-at.invariant in
    let more = c.loop-at-test.true in
    clearing_on inv more (list_read inv more) c.forget.ensures

pub shape_of-work : goal.shape_of-work
shape_of-work c = c.loop-at.invariant.long

pub returns : goal.returns
returns c = list_cleared c.loop-at.invariant c.loop-at-test.false
