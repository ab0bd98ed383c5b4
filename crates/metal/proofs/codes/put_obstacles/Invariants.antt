-- `metal::codes::put_obstacles` meets its contract: so far the obstacles of so many vertices are put in.
use Rattle.metal.proofs.Turns.{Putting}
use Rattle.metal.proofs.codes.put_obstacles.Given as goal

abbrev pub invariant-loop-v : goal.invariant-loop-v
invariant-loop-v l = Putting l.occupants l.count l.initial.map l.v l.map
