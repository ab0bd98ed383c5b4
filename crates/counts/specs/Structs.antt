-- The forms in which the code holds counts.
--     kind_of      the place of a kind among a layer's counts
--     CountsFit    no count is above a number
--     plus         a report with a plan's counts, number by number
--     over_at      the first that would be too large
--     left_of      the report that adding them leaves
use Rattle.std.specs.Prelude.{ℕ, ◌+◌, ◌/◌, ◌≤◌, List, [], ◌∷◌, get_or, Option, Some, None}
use Rattle.job.specs.Reading.{Read, refused, good}
use Rattle.counts.specs.Counts.{kinds, steps, vias, added_steps, penalised, guide_entries, short_entries}
use Rattle.counts.specs.declared.moves.Kind.{Kind}
use Rattle.counts.specs.declared.moves.Kind.TheVariants.{Steps, Vias, Added, Penalised, Guide, Short}

abbrev pub kind_of : Kind → ℕ
kind_of Steps = steps
kind_of Vias = vias
kind_of Added = added_steps
kind_of Penalised = penalised
kind_of Guide = guide_entries
kind_of Short = short_entries

pub record CountsFit (most : ℕ) (counts : List ℕ) : Type 0 where
  pub each : (i : ℕ) → get_or counts i 0 ≤ most

unfoldable pub plus : (report counts : List ℕ) → List ℕ
plus [] counts = []
plus (r ∷ rs) [] = r ∷ rs
plus (r ∷ rs) (c ∷ cs) = (r + c) ∷ plus rs cs

unfoldable pub over_at : Option ℕ → Read Unit
over_at (Some at) = refused 19 (at / kinds)
over_at None = good tt

unfoldable pub left_of : (report more : List ℕ) → Read Unit → List ℕ
left_of report more (refused n p) = report
left_of report more (good u) = more
