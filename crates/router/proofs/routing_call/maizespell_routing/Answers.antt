-- `router::routing_call::maizespell_routing` meets its contract.
use Rattle.router.proofs.Promises.{routing_parts}
use Rattle.router.proofs.routing_call.maizespell_routing.Goals as goal

pub returns : goal.returns
returns c =
    let all = routing_parts _ _ _ _ c.route_job.ensures in
    rw c.from.ensures (record { result = all.0; map = all.1.0; work = all.1.1.0; plan = all.1.1.1.0; cheapest = all.1.1.1.1.0; ties = all.1.1.1.1.1 })
