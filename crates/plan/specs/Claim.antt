-- Demand 3 as one claim: no join of a plan has a cheaper rival, and where a record says none there is no
-- rival. And the ties: which of the cheapest a plan holds.
-- Specification: sections 4.3 and 3.2.
--     RivalOf, CheapestRecord     of one record
--     Cheapest                    of a job and a plan's bytes
--     ByTies                      of both: each record is the join that the ties name
use Rattle.std.specs.Prelude.{ℕ, ◌≤◌, List}
use Rattle.job.specs.Lists.{All}
use Rattle.job.specs.Job.{Job}
use Rattle.rules.specs.Views.{view_of}
use Rattle.rules.specs.Prices.{tech_of}
use Rattle.rules.specs.Walks.{Rival}
use Rattle.rules.specs.Joins.{Record, join, none, IsJoin}
use Rattle.rules.specs.Routings.{Entry}
use Rattle.plan.specs.Legal.{LegalPlan}

-- a rival of an entry, against what stood before it
abbrev pub RivalOf : Job → Entry → (start : ℕ) → (moves : List ℕ) → (cost : ℕ) → Type 0
RivalOf j e = Rival (tech_of j) (view_of j e.net e.before.metal) e.before.tree e.before.unjoined

-- a join is a rival at its recorded cost, and every rival costs at least that; at none there is no rival
unfoldable pub CheapestRecord : Job → Entry → Record → Type 0
CheapestRecord j e (join start moves cost) =
    RivalOf j e start moves cost × ((s : ℕ) (ms : List ℕ) (c : ℕ) → RivalOf j e s ms c → cost ≤ c)
CheapestRecord j e none = (s : ℕ) (ms : List ℕ) (c : ℕ) → RivalOf j e s ms c → ⊥

-- the plan holds each net's records in order until all its pins are joined or one says none, its bits are
-- theirs with zero fill, and every record is cheapest: "One claim over all records and rivals."
pub record Cheapest (j : Job) (bytes : List ℕ) : Type 0 where
  pub plan : LegalPlan j bytes
  pub cheapest : All (λ e. CheapestRecord j e e.written) plan.entries

-- each record is the one join that comes first: "The cheapest is taken; among equals the lowest start vertex,
-- then the move list that comes first by move number."
pub record ByTies (j : Job) (bytes : List ℕ) : Type 0 where
  pub plan : LegalPlan j bytes
  pub first : All (λ e. IsJoin (tech_of j) (view_of j e.net e.before.metal) e.before.tree e.before.unjoined e.written) plan.entries
