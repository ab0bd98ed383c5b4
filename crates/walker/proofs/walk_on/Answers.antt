-- `walker::walk_on` meets its contract.
use mathlib.Core.Path.{refl}
use Rattle.walker.specs.Structs.{walk_on}
use Rattle.walker.proofs.walk_on.Goals as goal

pub returns : goal.returns
unfolding walk_on
returns c = refl
