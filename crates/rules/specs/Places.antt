-- The places of a search by number, and what a job's layers must satisfy.
--     segment_code, code_by, place_code    a segment's number, and a place's: by vertex, then segment
--     segment_at, place_at                 the segment and the place of a number
--     entry_cost                           an entry of a table of costs
--     GoodSegment, GoodPlace               a vertex of the grid, and a running length from 1 to below the
--                                          largest M
--     GoodTech                             what a good job says of its layers
--     dearest_entry, dearest_move          the most that entering a vertex and a move can cost
use Rattle.std.specs.Prelude.{ℕ, zero, suc, ◌+◌, ◌-◌, ◌*◌, ◌/◌, ◌%◌, ◌^◌, ◌≤◌, ◌<◌, ◌≡◌, cond, length, eqb, ltb}
use Rattle.job.specs.Grid.{vertices}
use Rattle.job.specs.Job.{largest_min_length}
use Rattle.job.specs.Good.{GoodGrid, GoodLines}
use Rattle.paths.specs.Costs.{Cost, fin, inf}
use Rattle.rules.specs.Segments.{low, high, Segment, fresh, running, paid, paid_toward, Place}
use Rattle.rules.specs.Prices.{Tech}

-- fresh is 0; running low and high at length n are 2n - 1 and 2n; with M the largest, paid is 2M - 1, toward
-- low 2M, toward high 2M + 1
unfoldable pub segment_code : (largest : ℕ) → Segment → ℕ
segment_code largest fresh = 0
segment_code largest (running low n) = 2 * n - 1
segment_code largest (running high n) = 2 * n
segment_code largest paid = 2 * largest - 1
segment_code largest (paid_toward low) = 2 * largest
segment_code largest (paid_toward high) = 2 * largest + 1

-- 2(M + 1) numbers for each vertex, with M the largest
unfoldable pub code_by : (largest : ℕ) → Place → ℕ
code_by largest p = p.vertex * (2 * (largest + 1)) + segment_code largest p.segment

unfoldable pub place_code : Tech → Place → ℕ
place_code t p = code_by (largest_min_length t.lines) p

-- a running segment: odd numbers go low, even ones high
unfoldable pub running_at : (code : ℕ) → Segment
running_at c = running (cond (eqb (c % 2) 0) high low) ((c + 1) / 2)

-- the segment of a number
unfoldable pub segment_at : (largest code : ℕ) → Segment
segment_at largest c =
    cond (eqb c 0) fresh
    (cond (ltb c (2 * largest - 1)) (running_at c)
    (cond (eqb c (2 * largest - 1)) paid (cond (eqb c (2 * largest)) (paid_toward low) (paid_toward high))))

-- the place of a number
unfoldable pub place_at : (largest code : ℕ) → Place
place_at largest c = record { vertex = c / (2 * (largest + 1)); segment = segment_at largest (c % (2 * (largest + 1))) }

-- an entry of a table of costs: 0 is infinite, and n + 1 is the cost n
unfoldable pub entry_cost : ℕ → Cost
entry_cost zero = inf
entry_cost (suc n) = fin n

-- "Length M or more is paid": a running length is below the largest M, and a step has been made
unfoldable pub GoodSegment : (largest : ℕ) → Segment → Type 0
GoodSegment largest fresh = Unit
GoodSegment largest (running d n) = (1 ≤ n) × (n < largest)
GoodSegment largest paid = Unit
GoodSegment largest (paid_toward d) = Unit

pub record GoodPlace (t : Tech) (p : Place) : Type 0 where
  pub vertex : p.vertex < vertices t.grid
  pub segment : GoodSegment (largest_min_length t.lines) p.segment

-- the rules of a job that moves and prices rest on
pub record GoodTech (t : Tech) : Type 0 where
  pub grid : GoodGrid t.grid
  pub guide : t.guide < 2 ^ 16
  pub short : t.short < 2 ^ 16
  pub lines : length t.lines ≡ t.grid.layers
  pub good_lines : GoodLines t.lines

-- no entry costs more: a wire or a via, and a penalty
abbrev pub dearest_entry : ℕ
dearest_entry = 1023 + 65534

-- no move costs more: an entry, and what is owed for a segment
abbrev pub dearest_move : ℕ
dearest_move = dearest_entry + 65534
