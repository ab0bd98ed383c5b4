-- `router::routing_call::end_routing` meets its contract: the plan slice is short, or it is not.
use mathlib.Core.Path.{refl}
use Rattle.router.proofs.Routes.{end_short, end_enough}
use Rattle.router.proofs.routing_call.end_routing.Goals as goal

pub returns-then-room-need : goal.returns-then-room-need
returns-then-room-need c =
    let short = c.if-room-need.true in
    record {
      result = rw c.at.ensures (end_short _ _ short refl);
      map = end_short _ _ short c.zero_codes.ensures;
      plan = end_short _ _ short c.zero_bytes.ensures;
    }

pub returns : goal.returns
returns c = let enough = c.if-room-need.false in
    record {
      result = end_enough _ _ enough;
      map = end_enough _ _ enough;
      plan = end_enough _ _ enough;
    }
