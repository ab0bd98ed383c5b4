-- The join by a table of costs: the best start, then at each place the lowest move that keeps the cost.
--     starts                tree vertices, as numbered starts
--     join_from, join_by    what follows a table from a start that was chosen, and from the best
use Rattle.std.specs.Prelude.{ℕ, List}
use Rattle.job.specs.Grid.{vertices}
use Rattle.paths.specs.Costs.{Cost}
use Rattle.paths.specs.Distances.{follow}
use Rattle.paths.specs.Starts.{Choice, best, Starts, start_cost}
use Rattle.rules.specs.Views.{View, member}
use Rattle.rules.specs.Segments.{Place}
use Rattle.rules.specs.Prices.{Tech}
use Rattle.rules.specs.Walks.{system, start_at}
use Rattle.rules.specs.Joins.{Record, join, none, places}

module _ (t : Tech) (view : View) (tree unjoined : List ℕ) where
  -- "A join starts at any tree vertex"
  abbrev pub starts : Starts (system t view unjoined)
  starts = record { many = vertices t.grid; is_start = λ v. member v tree; place = start_at }

  -- what follows a table of costs from the best start
  unfoldable pub join_from : (Place → Cost) → Choice → Record
  join_from D Choice.none = none
  join_from D (Choice.first v c) = join v (follow (system t view unjoined) D (places t) (start_at v)) c

  -- the join by a table of costs
  unfoldable pub join_by : (Place → Cost) → Record
  join_by D = join_from D (best (start_cost starts D) (vertices t.grid))
