-- The facts that the prices of a job keep have one proof at most.
--     good_lines_prop, tech_fits_prop    what a good job says of its layers
--     priced_prop                        a penalty for each byte of flags
use Rattle.std.specs.Prelude.{ℕ, List, [], ◌∷◌}
use Rattle.std.specs.Coded.{Unit-prop, le_prop}
use Rattle.std.proofs.Math.Dec.{T_prop}
use Rattle.std.proofs.Math.Nat.{ℕ_set}
use Rattle.job.specs.Job.{Layer}
use Rattle.job.specs.Good.{GoodLines}
use Rattle.rules.specs.PriceLists.{Priced}
use Rattle.rules.specs.Structs.{TechFits}
use Rattle.rules.specs.declared.price.Tech.{Tech as TechStruct}

pub good_lines_prop : (ls : List Layer) → IsProp (GoodLines ls)
unfolding GoodLines
good_lines_prop [] = Unit-prop
good_lines_prop (l ∷ ls) = hlevel (le_prop, T_prop, good_lines_prop ls)

pub tech_fits_prop : (t : TechStruct) → IsProp (TechFits t)
tech_fits_prop t = hlevel (le_prop, T_prop, ℕ_set, good_lines_prop)

pub priced_prop : (guide short : ℕ) (extras : List ℕ) → IsProp (Priced guide short extras)
priced_prop guide short extras = hlevel ℕ_set
