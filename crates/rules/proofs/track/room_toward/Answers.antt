-- `rules::track::room_toward` meets its contract.
use Rattle.rules.specs.Structs.{direction_of, room_in}
use Rattle.rules.proofs.track.room_toward.Goals as goal

pub returns-in-Low : goal.returns-in-Low
unfolding direction_of room_in
returns-in-Low c = rw c.in-Low.is

pub returns-in-High : goal.returns-in-High
unfolding direction_of room_in
returns-in-High c = rw c.in-High.is
