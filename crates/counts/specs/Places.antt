-- How many counts there are at a place of the report.
use Rattle.std.specs.Prelude.{ℕ, ◌+◌, List, [], ◌∷◌, cond, eqb}
use Rattle.counts.specs.Counts.{Count}

unfoldable pub count_at : List Count → (place : ℕ) → ℕ
count_at [] i = 0
count_at (c ∷ cs) i = cond (eqb c.at i) c.many 0 + count_at cs i
