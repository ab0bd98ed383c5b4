-- The best start and the route from there, where a byte of each vertex tells the tree and the unjoined pins.
--     to_go            the least cost to go from each place
--     choice_of        the lowest vertex of the tree with the least finite cost to go, or none
--     route_by         the moves from a vertex: at each place the lowest that keeps the cost to go
--     join_by_spots    the join from the chosen start, or none
--     Told             what a search found tells it
use Rattle.std.specs.Prelude.{ℕ, ◌≡◌, List, Option, Some, None}
use Rattle.job.specs.Grid.{vertices}
use Rattle.paths.specs.Distances.{dist, follow}
use Rattle.paths.specs.Costs.{Cost}
use Rattle.paths.specs.Starts.{Choice, none, first, best, start_cost}
use Rattle.rules.specs.Views.{View}
use Rattle.rules.specs.Segments.{Place}
use Rattle.rules.specs.Prices.{Tech}
use Rattle.rules.specs.Walks.{start_at}
use Rattle.rules.specs.Joins.{Record, places}
use Rattle.search.specs.Fronts.{system_by, starts_by}
use Rattle.search.specs.Charts.{Charted, lowest_led}
use Rattle.joins.specs.declared.join.Cheapest.{Cheapest}

module _ (t : Tech) (view : View) (spots : List ℕ) where
  -- the least cost to go from each place
  abbrev pub to_go : Place → Cost
  to_go = dist (system_by t view spots) (places t)

  -- "The cheapest is taken; among equals the lowest start vertex"
  unfoldable pub choice_of : Choice
  choice_of = best (start_cost (starts_by t view spots) to_go) (vertices t.grid)

  -- the moves from a vertex
  unfoldable pub route_by : (start : ℕ) → List ℕ
  route_by v = follow (system_by t view spots) to_go (places t) (start_at v)

  -- the join from a chosen start
  unfoldable pub join_chosen : Choice → Record
  join_chosen none = Record.none
  join_chosen (first v c) = Record.join v (route_by v) c

  -- the join that the bytes tell
  unfoldable pub join_by_spots : Record
  join_by_spots = join_chosen choice_of

-- what a search found: a start and the cost of the join from there, by the leads of the work slice; or that
-- there is no join
unfoldable pub Told : Tech → View → (spots work : List ℕ) → Option Cheapest → Type 0
Told t view spots work (Some c) = (bounds : List ℕ) × (Charted t view spots bounds work c.cost) × (c.start ≡ lowest_led t view spots work)
Told t view spots work None = join_by_spots t view spots ≡ Record.none
