-- The cheapest join of a net in what stands.
-- Specification: section 3.2.
--     Record     a join with its start, moves and cost, or none
--     IsJoin     the route that no route is ahead of; or none, and there is no route
--     places     how many places there are
--     join_of    the function that computes it: the cheapest, by lowest start, then by lowest moves
use Rattle.std.specs.Prelude.{ℕ, ◌+◌, ◌*◌, ◌≡◌, List, [], ◌∷◌, cond}
use Rattle.job.specs.Grid.{vertices}
use Rattle.job.specs.Job.{largest_min_length}
use Rattle.paths.specs.Rivals.{Join, Ahead}
use Rattle.paths.specs.Finding.{Found, found, cheapest_of, before, cheapest_in}
use Rattle.rules.specs.Views.{View, member}
use Rattle.rules.specs.Prices.{Tech}
use Rattle.rules.specs.Walks.{system, start_at, Route}

-- "a record is bit 1 with its fields, or bit 0"
pub data Record : Type 0 where
  join : (start : ℕ) (moves : List ℕ) (cost : ℕ) → Record
  none : Record

-- "The cheapest is taken; among equals the lowest start vertex, then the move list that comes first by move
-- number."
pub data IsJoin (t : Tech) (view : View) (tree unjoined : List ℕ) : Record → Type 0 where
  first : (k : Join) {r : Record} → Route t view tree unjoined k.start k.moves k.cost
      → ((other : Join) → Route t view tree unjoined other.start other.moves other.cost → Ahead other k → ⊥)
      → r ≡ join k.start k.moves k.cost → IsJoin t view tree unjoined r
  no_route : {r : Record} → ((k : Join) → Route t view tree unjoined k.start k.moves k.cost → ⊥) → r ≡ none
      → IsJoin t view tree unjoined r

-- for each vertex: two directions and every length up to the largest M
unfoldable pub places : Tech → ℕ
places t = vertices t.grid * 2 * (largest_min_length t.lines + 1)

-- what was found, with the start before its moves, as a record
unfoldable pub record_of : Found → Record
record_of Found.none = none
record_of (found cost []) = none
record_of (found cost (start ∷ moves)) = join start moves cost

-- the cheapest from a tree vertex, the start before its moves. A cheapest route comes to no place twice, so
-- it has fewer moves than there are places
unfoldable pub found_from : Tech → View → (tree unjoined : List ℕ) → (v : ℕ) → Found
found_from t view tree unjoined v = cond (member v tree) (before v 0 (cheapest_in (system t view unjoined) (places t) (start_at v))) Found.none

-- the cheapest from any
unfoldable pub join_of : Tech → View → (tree unjoined : List ℕ) → Record
join_of t view tree unjoined = record_of (cheapest_of (found_from t view tree unjoined) (vertices t.grid))
