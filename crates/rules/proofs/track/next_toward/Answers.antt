-- `rules::track::next_toward` meets its contract.
use mathlib.Core.Path.{ap}
use Rattle.rules.specs.Structs.{direction_of, next_on}
use Rattle.rules.proofs.track.next_toward.Goals as goal

pub overflow_sub-result : goal.overflow_sub-result
unfolding direction_of
overflow_sub-result c = c.requires.2 (ap direction_of c.in-Low.is)

pub returns-in-Low : goal.returns-in-Low
unfolding direction_of next_on
returns-in-Low c = rw c.in-Low.is

pub returns-in-High : goal.returns-in-High
unfolding direction_of next_on
returns-in-High c = rw c.in-High.is
