-- `rules::segment::opposite` meets its contract.
use mathlib.Core.Path.{refl}
use Rattle.rules.specs.Structs.{opposite_to}
use Rattle.rules.proofs.segment.opposite.Goals as goal

pub returns-in-Low : goal.returns-in-Low
unfolding opposite_to
returns-in-Low c = rw c.in-Low.is refl

pub returns-in-High : goal.returns-in-High
unfolding opposite_to
returns-in-High c = rw c.in-High.is refl
