-- `search::retrace::light` meets its contract: so many moves are turned back.
use Rattle.job.specs.Structs.{grid_of}
use Rattle.search.proofs.Lighting.{Lighting}
use Rattle.search.proofs.retrace.light.Given as goal

abbrev pub invariant-loop-number : goal.invariant-loop-number
invariant-loop-number l = Lighting (grid_of l.grid) l.v l.initial.near l.near l.number
