-- `replay::whole::finish_map` meets its contract.
use Rattle.replay.specs.Structs.{finished_map}
use Rattle.replay.proofs.whole.finish_map.Goals as goal

pub returns-in-Ok : goal.returns-in-Ok
unfolding finished_map
returns-in-Ok g c = rw c.in-Ok.is c.put_obstacles.ensures

pub returns-in-Err : goal.returns-in-Err
unfolding finished_map
returns-in-Err g c = rw c.in-Err.is c.zero_codes.ensures
