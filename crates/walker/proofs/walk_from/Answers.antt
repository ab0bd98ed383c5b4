-- `walker::walk_from` meets its contract.
use mathlib.Core.Path.{refl}
use Rattle.walker.specs.Structs.{walk_from}
use Rattle.walker.proofs.walk_from.Goals as goal

pub returns : goal.returns
unfolding walk_from
returns c = refl
