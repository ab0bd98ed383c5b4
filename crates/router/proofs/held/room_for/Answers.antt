-- `router::held::room_for` meets its contract.
use Rattle.router.proofs.Holding.{room_map, room_work, room_both}
use Rattle.router.proofs.held.room_for.Goals as goal

pub returns-then-map-vertices : goal.returns-then-map-vertices
returns-then-map-vertices c = rw c.at.ensures (room_map _ _ _ _ c.if-map-vertices.true)

pub returns-then-work-need : goal.returns-then-work-need
returns-then-work-need c = rw c.at-then-work-need.ensures (room_work _ _ _ _ c.if-map-vertices.false c.if-work-need.true)

pub returns : goal.returns
returns c = room_both _ _ _ _ c.if-map-vertices.false c.if-work-need.false
