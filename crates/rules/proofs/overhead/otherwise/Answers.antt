-- `rules::overhead::otherwise` meets its contract.
use Prim.Native.Nat.{ℕ}
use mathlib.Core.Path.{◌≡◌, refl, sym, ◌∙◌}
use mathlib.Core.List.{[]}
use mathlib.Core.Bool.{Bool, true, false, cond}
use lib.Dec.{eqb}
use Rattle.job.specs.Job.{closed_price}
use Rattle.job.specs.Structs.{penalty_of}
use Rattle.job.specs.declared.penalty.Penalty.TheVariants.{Closed, Price}
use Rattle.rules.specs.Overheads.{forbidden, owes, otherwise}
use Rattle.rules.specs.Structs.{overhead_by, FewMissing, WholeOverhead}
use Rattle.rules.proofs.overhead.otherwise.Goals as goal

-- a closed area penalty forbids
closed_forbids : (area : ℕ) → penalty_of area ≡ Closed → forbidden ≡ otherwise area
unfolding penalty_of otherwise
closed_forbids area e = by (eqb area closed_price) e
  where
    by : (b : Bool) → cond b Closed (Price area) ≡ Closed → forbidden ≡ cond b forbidden (owes area [] 0 1)
    by true q = refl
    by false q = cc

-- one with a price penalises
priced_penalises : (area : ℕ) {price : ℕ} → penalty_of area ≡ Price price → owes area [] 0 1 ≡ otherwise area
unfolding penalty_of otherwise
priced_penalises area {price} e = by (eqb area closed_price) e
  where
    by : (b : Bool) → cond b Closed (Price area) ≡ Price price → owes area [] 0 1 ≡ cond b forbidden (owes area [] 0 1)
    by true q = cc
    by false q = refl

pub returns-in-Closed : goal.returns-in-Closed
unfolding overhead_by FewMissing WholeOverhead
returns-in-Closed c wire g view p =
    record { same = closed_forbids _ (sym c.from_field-penalty.ensures ∙ c.in-Closed.is); few = tt; whole = tt }

pub returns-in-Price : goal.returns-in-Price
unfolding overhead_by FewMissing WholeOverhead
returns-in-Price c wire g view p =
    record { same = priced_penalises _ (sym c.from_field-penalty.ensures ∙ c.in-Price.is); few = tt; whole = tt }
