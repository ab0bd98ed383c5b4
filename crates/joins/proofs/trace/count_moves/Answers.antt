-- `joins::trace::count_moves` meets its contract.
use mathlib.Core.Path.{sym, ◌∙◌}
use native.Mathlib.Omega.{arith}
use Rattle.rules.specs.Walks.{start_at}
use Rattle.rules.specs.Structs.{segment_of, tech_by}
use Rattle.rules.proofs.Places.{places_small}
use Rattle.search.proofs.Asking.{vertex_here}
use Rattle.joins.proofs.Tracing.{counting_begun, counting_room, counting_done}
use Rattle.joins.proofs.Joining.{start_led}
use Rattle.joins.proofs.Followed.{followed_made, followed_legal}
use Rattle.joins.proofs.trace.count_moves.Goals as goal

pub loop-place-init : goal.loop-place-init
unfolding tech_by start_at segment_of
loop-place-init c =
    let pre = c.requires in
    let (bounds, best, charted) = pre.0 in
    (bounds, best, charted, counting_begun _ _ _ charted c.args.prices.now.fits.good pre.1)

pub ends_at-requires : goal.ends_at-requires
ends_at-requires c = vertex_here c.args.prices.now.fits _ c.loop-place.invariant.3.good

pub led_move-led-requires : goal.led_move-led-requires
led_move-led-requires c =
    let pre = c.requires in
    let so_far = c.loop-place.invariant in
    (so_far.2.room, so_far.3.good, followed_legal c.args.prices.now.fits _ so_far.2 _ so_far.3 (sym c.ends_at.ensures ∙ c.loop-place-test.true))

pub overflow_add-count : goal.overflow_add-count
overflow_add-count c =
    let so_far = c.loop-place.invariant in
    let pre = c.requires in
    omega (arith, places_small c.args.prices.now.fits.good, counting_room _ _ _ so_far.2 c.args.prices.now.fits.good pre.1 so_far.3)

pub loop-place-smaller : goal.loop-place-smaller
loop-place-smaller c =
    let so_far = c.loop-place.invariant in
    let pre = c.requires in
    omega (arith, counting_room _ _ _ so_far.2 c.args.prices.now.fits.good pre.1 so_far.3)

pub loop-place-preserved : goal.loop-place-preserved
loop-place-preserved c =
    let pre = c.requires in
    let so_far = c.loop-place.invariant in
    (so_far.0, so_far.1, so_far.2, followed_made c.args.prices.now.fits _ so_far.2 _ so_far.3 (sym c.ends_at.ensures ∙ c.loop-place-test.true) pre.1 c.led_move-led.ensures)

pub returns : goal.returns
returns c =
    let so_far = c.loop-place.invariant in
    let pre = c.requires in
    let counted = counting_done _ _ _ so_far.2 c.args.prices.now.fits.good pre.1 so_far.3 (sym c.ends_at.ensures ∙ c.loop-place-test.false) in
    record { counted = counted; few = omega (arith, counted, (start_led _ _ _ c.args.prices.now.fits.good so_far.2 pre.1).few) }
