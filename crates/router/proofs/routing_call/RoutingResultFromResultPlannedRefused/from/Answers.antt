-- `From` for `RoutingResult` meets its contract.
use mathlib.Core.Path.{refl}
use Rattle.router.specs.Routing.{refused_routing, total_result}
use Rattle.router.proofs.routing_call.RoutingResultFromResultPlannedRefused.from.Goals as goal

pub returns-in-Ok : goal.returns-in-Ok
unfolding total_result
returns-in-Ok c = rw c.in-Ok.is refl

pub returns-in-Err : goal.returns-in-Err
unfolding refused_routing
returns-in-Err c = rw (c.in-Err.is, c.number.ensures) refl
