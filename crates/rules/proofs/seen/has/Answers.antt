-- `rules::seen::has` meets its contract.
use mathlib.Core.Path.{refl}
use Rattle.rules.specs.Seen.{holds}
use Rattle.rules.proofs.seen.has.Goals as goal

pub returns : goal.returns
unfolding holds
returns c = refl
