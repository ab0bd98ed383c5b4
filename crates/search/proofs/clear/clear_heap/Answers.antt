-- `search::clear::clear_heap` meets its contract.
use mathlib.Core.Path.{◌∙◌}
use native.Mathlib.Omega.{arith}
use Rattle.search.proofs.Clearing.{clearing_begun, clearing_fits, clearing_on, heap_named, heap_read, heap_cleared}
use Rattle.search.proofs.clear.clear_heap.Goals as goal

pub loop-at-init : goal.loop-at-init
loop-at-init c = clearing_begun (heap_named c.requires)

pub item_at-item-requires : goal.item_at-item-requires
item_at-item-requires c =
    let pre = c.requires in
    (pre.few, omega (arith, c.loop-at-test.true, pre.fits), (clearing_fits c.loop-at.invariant c.loop-at-test.true).1)

pub overflow_add-n : goal.overflow_add-n
overflow_add-n c =
    let pre = c.requires in
    omega (arith, c.loop-at-test.true, pre.fits, pre.few)

pub forget-requires : goal.forget-requires
forget-requires c =
    let inv = c.loop-at.invariant in
    let more = c.loop-at-test.true in
    let fits = clearing_fits inv more in
    (omega (arith, fits.0, c.item_at-item.ensures, heap_read inv more), fits.1)

pub loop-at-preserved : goal.loop-at-preserved
loop-at-preserved c =
    let inv = c.loop-at.invariant in
    let more = c.loop-at-test.true in
    clearing_on inv more (c.item_at-item.ensures ∙ heap_read inv more) c.forget.ensures

pub shape_of-work : goal.shape_of-work
shape_of-work c = c.loop-at.invariant.long

pub returns : goal.returns
returns c = heap_cleared c.loop-at.invariant c.loop-at-test.false
