-- `search::tries::to_fresh` meets its contract.
use mathlib.Core.Path.{refl}
use native.Mathlib.Omega.{arith}
use Rattle.rules.specs.Structs.{segment_of, cost_of, by_owed}
use Rattle.search.specs.Tries.{tried_of}
use Rattle.search.proofs.tries.to_fresh.Goals as goal

pub returns-in_default : goal.returns-in_default
unfolding tried_of cost_of by_owed
returns-in_default c = rw c.in_default.is refl

pub overflow_add-result : goal.overflow_add-result
overflow_add-result c = let pre = c.requires in omega (arith, pre.0, pre.1 _ c.in-Price.is)

pub returns : goal.returns
unfolding tried_of cost_of by_owed segment_of
returns c = rw c.in-Price.is refl
