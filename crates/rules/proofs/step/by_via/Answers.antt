-- `rules::step::by_via` meets its contract.
use mathlib.Core.Path.{refl}
use Rattle.rules.specs.Structs.{by_via}
use Rattle.rules.proofs.step.by_via.Goals as goal

pub returns : goal.returns
unfolding by_via
returns c = refl
