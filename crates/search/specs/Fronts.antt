-- What the entries of the work slice tell of a search from the tree.
--     system_by               places and moves, with an unjoined pin told by its byte
--     starts_by               the vertices of the tree, told by their bytes
--     left_at, cost_in        what is left at least from the place with a number, times 15; the cost that
--                                a key tells
--     costs, reached_by       the cost to each place that has an entry
--     at_least                what is left at least from a place
--     lead_slot, with_lead    the slot of a lead that tells a move; the slice with such a lead
--     led_by, lead_at         whether a place has a lead, and the move that it tells
--     no_goal, best_by        the cost of the cheapest goal found
--     best_of                 the same from what the search answers
use Rattle.std.specs.Prelude.{ℕ, zero, suc, ◌+◌, ◌-◌, ◌*◌, ◌/◌, ◌%◌, List, Bool, cond, get_or, set, eqb, ltb, Option, Some, None}
use Rattle.job.specs.Grid.{vertices}
use Rattle.job.specs.Job.{largest_min_length}
use Rattle.paths.specs.Systems.{System}
use Rattle.paths.specs.Costs.{Cost, fin, inf}
use Rattle.paths.specs.Starts.{Starts}
use Rattle.rules.specs.Views.{View}
use Rattle.rules.specs.Segments.{Place}
use Rattle.rules.specs.Prices.{Tech}
use Rattle.rules.specs.Steps.{step, priced}
use Rattle.rules.specs.Walks.{start_at}
use Rattle.rules.specs.Places.{place_code, place_at, entry_cost}
use Rattle.heap.specs.Heaps.{key_of, slot_of, word_of}
use Rattle.bounds.specs.Bounds.{bound_at}

-- moves 0 to 3; a place on a vertex whose byte says that it is an unjoined pin is a goal
abbrev pub system_by : Tech → View → (spots : List ℕ) → System
system_by t view spots =
    record {
      Place = Place;
      moves = 4;
      step = λ p m. priced (step t view p m);
      goal = λ p. eqb (get_or spots p.vertex 0) 2;
    }

-- a vertex whose byte says that it is on the tree is a start
abbrev pub starts_by : (t : Tech) (view : View) (spots : List ℕ) → Starts (system_by t view spots)
starts_by t view spots = record { many = vertices t.grid; is_start = λ v. eqb (get_or spots v 0) 1; place = start_at }

-- what is left at least from the place with a number, times 15
unfoldable pub left_at : Tech → (bounds : List ℕ) → (c : ℕ) → ℕ
left_at t bounds c = bound_at t.grid bounds (place_at (largest_min_length t.lines) c).vertex

-- a key is 16 times the cost, what is left, and 1: the cost and 1 of such a key, and 0 of any other
unfoldable pub cost_in : (left key : ℕ) → ℕ
cost_in left zero = zero
cost_in left (suc k) = cond (eqb k (16 * ((k - left) / 16) + left)) (suc ((k - left) / 16)) zero

-- the cost to the place with a number, and 1; 0 where it has no entry
unfoldable pub costs : Tech → (bounds work : List ℕ) → (c : ℕ) → ℕ
costs t bounds work c = cost_in (left_at t bounds c) (key_of (get_or work c 0))

-- the cost to each place that has an entry
unfoldable pub reached_by : Tech → (bounds work : List ℕ) → Place → Cost
reached_by t bounds work p = entry_cost (costs t bounds work (place_code t p))

-- what is left at least from a place: a place is settled where its cost with this is within the best cost
unfoldable pub at_least : Tech → (bounds : List ℕ) → Place → ℕ
at_least t bounds p = bound_at t.grid bounds p.vertex / 16 + 1

-- the slot of a lead that tells a move: no seat of the heap has such a number, and no settled place without a
-- lead
abbrev pub lead_slot : (lead : ℕ) → ℕ
lead_slot lead = 4 * 262142 + lead

-- the slice with a lead on the place with a number; its key stays
abbrev pub with_lead : (work : List ℕ) → (item lead : ℕ) → List ℕ
with_lead work item lead = set work item (word_of (key_of (get_or work item 0)) (lead_slot lead))

-- whether a place has a lead
unfoldable pub led_by : Tech → (work : List ℕ) → Place → Bool
led_by t work p = eqb (slot_of (get_or work (place_code t p) 0) / 4) 262142

-- the move that its lead tells
unfoldable pub lead_at : Tech → (work : List ℕ) → Place → ℕ
lead_at t work p = slot_of (get_or work (place_code t p) 0) % 4

-- the cost that stands for no goal: every goal costs less
abbrev pub no_goal : ℕ
no_goal = 1099511627775

-- the cost of the cheapest goal found
unfoldable pub best_by : (best : ℕ) → Cost
best_by best = cond (ltb best no_goal) (fin best) inf

-- the cost of the goal that a search answers
unfoldable pub best_of : Option ℕ → ℕ
best_of None = no_goal
best_of (Some best) = best
