-- `rules::track::lower` meets its contract.
use Rattle.rules.specs.Tracks.{if_there}
use Rattle.rules.specs.Structs.{entered_of}
use Rattle.rules.proofs.track.lower.Goals as goal

pub overflow_sub-result : goal.overflow_sub-result
overflow_sub-result c = c.requires c.if-there.true

pub returns-then-there : goal.returns-then-there
unfolding if_there entered_of
returns-then-there c = rw c.if-there.true

pub returns-else-there : goal.returns-else-there
unfolding if_there entered_of
returns-else-there c = rw c.if-there.false
