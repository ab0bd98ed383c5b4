-- What a via move owes for the segment that it leaves.
-- Specification: section 2.5.
--     clear_run                the clear vertices beyond one
--     first_of, both_ends      a segment's first vertex; the clear vertices beyond its two ends
--     Overhead, overhead_of    what is owed, or that the move is forbidden
use Rattle.std.specs.Prelude.{ℕ, zero, suc, ◌-◌, ◌*◌, List, [], ◌∷◌, ◌++◌, Bool, true, false, ◌&&◌, not, cond, length, eqb}
use Rattle.job.specs.Grid.{Grid}
use Rattle.job.specs.Job.{Layer, closed_price}
use Rattle.rules.specs.Tracks.{Entered, outside, at, entered}
use Rattle.rules.specs.Views.{View}
use Rattle.rules.specs.Segments.{Direction, low, high, opposite, Segment, fresh, running, paid, paid_toward}
use Rattle.rules.specs.Prices.{Tech, line_of}

-- "clear vertices: in the grid, no obstacle, no other net's pin, not taken"
unfoldable pub clear : View → ℕ → Bool
clear view v = not (view.blocked v) && not (view.taken v)

-- the move that steps in a direction
unfoldable pub toward : Direction → ℕ
toward low = 0
toward high = 1

-- a clear vertex and those beyond it, or none
unfoldable pub on_from : View → (ℕ → List ℕ) → Entered → List ℕ
on_from view beyond outside = []
on_from view beyond (at w) = elim (clear view w) [ true ↦ w ∷ beyond w | false ↦ [] ]

-- "count clear vertices; the first vertex that isn't clear stops the count": beyond a vertex, in a direction,
-- at most k
unfoldable pub clear_run : Grid → View → Direction → (k v : ℕ) → List ℕ
clear_run g view d zero v = []
clear_run g view d (suc k) v = on_from view (clear_run g view d k) (entered g v (toward d))

-- on from the vertex that a step back enters; the vertex itself where the track ends
unfoldable pub back_from : (v : ℕ) → (ℕ → ℕ) → Entered → ℕ
back_from v further outside = v
back_from v further (at w) = further w

-- the first vertex of a segment of length n in a direction: n steps back from its last
unfoldable pub first_of : Grid → Direction → (n last : ℕ) → ℕ
first_of g d zero v = v
first_of g d (suc n) v = back_from v (first_of g d n) (entered g v (toward (opposite d)))

-- "the clear vertices beyond the last vertex and those beyond the segment's first vertex are counted
-- together": at most k, "at the leaving end first, then at the starting end"
unfoldable pub both_ends : Grid → View → Direction → (k last first : ℕ) → List ℕ
both_ends g view d k last first =
    let leaving = clear_run g view d k last in
    leaving ++ clear_run g view (opposite d) (k - length leaving) first

-- a price, the vertices laid, the steps that were missing and how many segments are penalised; or the move is
-- forbidden
pub data Overhead : Type 0 where
  forbidden : Overhead
  owes : (price : ℕ) (laid : List ℕ) (added penalties : ℕ) → Overhead

-- "Otherwise it is the area penalty, or the move is forbidden if that is closed."
unfoldable pub otherwise : (area : ℕ) → Overhead
otherwise area = cond (eqb area closed_price) forbidden (owes area [] 0 1)

-- "If M − n are clear, the overhead is wire price × (M − n) and these vertices become metal of the net."
unfoldable pub lengthened_by : Layer → (missing : ℕ) → (run : List ℕ) → Overhead
lengthened_by line missing run = cond (eqb (length run) missing) (owes (line.wire * missing) run missing 0) (otherwise line.area)

-- "A via move out of a segment of length n < M also costs overhead."
unfoldable pub too_short : Grid → Layer → View → (last : ℕ) → Direction → (n : ℕ) → Overhead
too_short g line view v d n =
    let missing = line.min_length - n in
    lengthened_by line missing (both_ends g view d missing v (first_of g d n v))

-- "a fresh segment takes high, then low": it is of length 0 and goes high
unfoldable pub overhead_of : Tech → View → (v : ℕ) → Segment → Overhead
overhead_of t view v fresh = too_short t.grid (line_of t v) view v high 0
overhead_of t view v (running d n) = too_short t.grid (line_of t v) view v d n
overhead_of t view v paid = owes 0 [] 0 0
overhead_of t view v (paid_toward d) = owes 0 [] 0 0
