-- `router::routing_call::route_job` meets its contract: the job is refused, a slice is short, or it is routed.
use mathlib.Core.Path.{refl, ◌∙◌}
use native.Mathlib.Omega.{arith}
use borrow.Author.Rules.{rules}
use Rattle.reader.proofs.Outcome.{zeros_bare}
use Rattle.replay.proofs.Parts.{passed_same}
use Rattle.router.proofs.Holding.{refused_room, room_short, room_enough, bytes_below}
use Rattle.router.proofs.Ends.{routes_refused}
use Rattle.router.proofs.Routes.{route_asked, route_ended}
use Rattle.router.proofs.routing_call.route_job.Goals as goal

pub hold_job-requires : goal.hold_job-requires
hold_job-requires c = zeros_bare

pub returns-in_err-held : goal.returns-in_err-held
returns-in_err-held c =
    rw (passed_same c.from_residual.ensures) (routes_refused _ _ _ _ (refused_room _ _ _ c.in_err-held.ensures))

pub returns-in_err-room_for : goal.returns-in_err-room_for
returns-in_err-room_for c =
    rw (passed_same c.from_residual-in_err-room_for.ensures) (routes_refused _ _ _ _ (room_short c.in_ok-held.ensures _ _ c.in_err-room_for.ensures refl))

pub zero_words-requires : goal.zero_words-requires
zero_words-requires c =
    let h = c.in_ok-held.ensures in
    omega (arith, h.work, (room_enough h _ _ c.in_ok-room_for.ensures refl).need)

pub route_plan-routed-requires : goal.route_plan-routed-requires
route_plan-routed-requires c =
    let h = c.in_ok-held.ensures in
    route_asked h _ _ (room_enough h _ _ c.in_ok-room_for.ensures refl) c.zero_words.ensures

pub end_routing-requires : goal.end_routing-requires
end_routing-requires c =
    let h = c.in_ok-held.ensures in
    omega (arith, h.vertices, (room_enough h _ _ c.in_ok-room_for.ensures refl).vertices, c.route_plan-routed.auto.map)

pub returns : goal.returns
returns c =
    let h = c.in_ok-held.ensures in
    let enough = room_enough h _ _ c.in_ok-room_for.ensures refl in
    let routed = c.route_plan-routed.ensures in
    let ended = c.end_routing.ensures in
    route_ended _ _ _ _ h.job enough.read (bytes_below _ (search rules)) _ _ _ _ _ h.vertices (routed.answer h.job h.read)
    (routed.map h.job h.read) (routed.plan h.job h.read) (routed.work ∙ rw h.work at c.zero_words.ensures)
    ended.result ended.map ended.plan
