-- A lower bound on what is left from a vertex to the nearest unjoined pin, times 15, as the code holds it: an
-- entry for each row, column and layer.
--     sum_at, sum_along     what a row, a column and a layer leave, and that a step on
--     bound_of, bound_at    what is left at least, by coordinates and by the vertex's number
--     SmallBounds           so small that the code's sums fit
--     Bounding              it is such a bound
use Rattle.std.specs.Prelude.{ℕ, ◌+◌, ◌*◌, ◌^◌, ◌≤◌, ◌<◌, ◌≡◌, List, Bool, cond, get_or}
use Rattle.job.specs.Grid.{Grid, Vertex, vertices}
use Rattle.paths.specs.Systems.{to}
use Rattle.rules.specs.Tracks.{vertex_by}
use Rattle.rules.specs.Views.{View}
use Rattle.rules.specs.Segments.{Direction, Place}
use Rattle.rules.specs.Prices.{Tech}
use Rattle.rules.specs.Steps.{step, priced}
use Rattle.rules.specs.Places.{GoodPlace}
use Rattle.rules.specs.Structs.{next_on}

-- what a row, a column and a layer leave, by the positions of their entries
abbrev pub sum_at : (bounds : List ℕ) → (row column layer : ℕ) → ℕ
sum_at bounds row column layer = get_or bounds row 0 + (get_or bounds column 0 + get_or bounds layer 0)

-- the same a step on in a direction, where a step changes the column, or the row
abbrev pub sum_along : (bounds : List ℕ) → (row column layer : ℕ) → (columns : Bool) → Direction → ℕ
sum_along bounds row column layer columns d =
    cond columns (sum_at bounds row (next_on 1 d column) layer) (sum_at bounds (next_on 1 d row) column layer)

-- rows begin at 1, columns at 258, layers at 516, so that one less or one more than a coordinate stays in the
-- array
abbrev pub bound_of : (bounds : List ℕ) → Vertex → ℕ
bound_of bounds x = sum_at bounds (1 + x.row) (258 + x.column) (516 + x.layer)

-- what is left at least from the vertex with a number, times 15
unfoldable pub bound_at : Grid → (bounds : List ℕ) → (v : ℕ) → ℕ
bound_at g bounds v = bound_of bounds (vertex_by g v)

abbrev pub SmallBounds : (bounds : List ℕ) → Type 0
SmallBounds bounds = (k : ℕ) → get_or bounds k 0 ≤ 2 ^ 22

-- nothing is left at an unjoined pin, no move lowers what is left by more than 15 times its price, and all of
-- it is small
pub record Bounding (t : Tech) (spots bounds : List ℕ) : Type 0 where
  pub none : (v : ℕ) → v < vertices t.grid → get_or spots v 0 ≡ 2 → bound_at t.grid bounds v ≡ 0
  pub nearer : (view : View) {p q : Place} (m : ℕ) {c : ℕ} → GoodPlace t p → priced (step t view p m) ≡ to c q
      → bound_at t.grid bounds p.vertex ≤ 15 * c + bound_at t.grid bounds q.vertex
  pub small : (v : ℕ) → bound_at t.grid bounds v ≤ 2 ^ 24
