-- A bound on a plan's bytes, for whoever lends the slice.
-- Specification: section 6.3.
--     most_joins     how many joins a job may have: for each net its pins but the first
--     most_bytes     how many bytes its plan has at most
use Rattle.std.specs.Prelude.{ℕ, ◌+◌, ◌-◌, ◌*◌, ◌/◌, List, [], ◌∷◌, length}
use Rattle.job.specs.Job.{Net, Job}
use Rattle.rules.specs.Prices.{tech_of}
use Rattle.rules.specs.Joins.{places}

unfoldable pub most_joins : List Net → ℕ
most_joins [] = 0
most_joins (net ∷ nets) = length net.pins - 1 + most_joins nets

-- a join has fewer moves than there are places, and its record has 80 bits beside them
unfoldable pub most_bytes : Job → ℕ
most_bytes j = (most_joins j.nets * (2 * places (tech_of j) + 78) + 7) / 8
