-- `rules::track::higher` meets its contract.
use native.Mathlib.Omega.{arith}
use Rattle.rules.specs.Tracks.{if_there}
use Rattle.rules.specs.Structs.{entered_of}
use Rattle.rules.proofs.track.higher.Goals as goal

pub overflow_add-result : goal.overflow_add-result
overflow_add-result c = omega (arith, c.requires c.if-there.true)

pub returns-then-there : goal.returns-then-there
unfolding if_there entered_of
returns-then-there c = rw c.if-there.true

pub returns-else-there : goal.returns-else-there
unfolding if_there entered_of
returns-else-there c = rw c.if-there.false
