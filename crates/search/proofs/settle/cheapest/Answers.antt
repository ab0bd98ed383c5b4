-- `search::settle::cheapest` meets its contract.
use mathlib.Core.Path.{◌≡◌, refl}
use native.Mathlib.Omega.{arith}
use Rattle.std.proofs.lemmas.Option.{none-some}
use Rattle.search.specs.Fronts.{best_of}
use Rattle.search.proofs.settle.cheapest.Goals as goal

pub returns-then-best-lt-NONE : goal.returns-then-best-lt-NONE
unfolding best_of
returns-then-best-lt-NONE c = record { is = refl; below = λ cost is. (let same : c.args.best ≡ cost = cc in omega (arith, same, c.if-best-lt-NONE.true)) }

pub returns-else-best-lt-NONE : goal.returns-else-best-lt-NONE
unfolding best_of
returns-else-best-lt-NONE c = record { is = omega (arith, c.requires, c.if-best-lt-NONE.false); below = λ cost is. absurd (none-some _ is) }
