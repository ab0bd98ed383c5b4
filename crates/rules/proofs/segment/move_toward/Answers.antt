-- `rules::segment::move_toward` meets its contract.
use mathlib.Core.Path.{refl}
use Rattle.rules.specs.Overheads.{toward}
use Rattle.rules.specs.Structs.{direction_of}
use Rattle.rules.proofs.segment.move_toward.Goals as goal

pub returns-in-Low : goal.returns-in-Low
unfolding toward direction_of
returns-in-Low c = rw c.in-Low.is refl

pub returns-in-High : goal.returns-in-High
unfolding toward direction_of
returns-in-High c = rw c.in-High.is refl
