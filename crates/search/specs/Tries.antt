-- One move that is tried from a settled place, in the code's forms.
--     AtPlace               what the code holds of a settled place
--     tried_of              where a move leads, and its price
--     OwedFor               what a via owes, if it was asked
--     fresh_code, Passed    the number of a vertex's fresh place, and that a place has a key that a move at a
--                           price does not lower
--     Attempted             a move that was tried, or passed over
use Rattle.std.specs.Prelude.{ℕ, suc, ◌+◌, ◌*◌, ◌≤◌, ◌<◌, ◌≡◌, ◌⊎◌, List, Option, Some, None, get_or}
use Rattle.job.specs.Structs.{grid_of, vertex_struct}
use Rattle.job.specs.declared.penalty.Penalty.{Penalty}
use Rattle.paths.specs.Systems.{Step, blocked, to}
use Rattle.rules.specs.Tracks.{vertex_by}
use Rattle.rules.specs.Views.{View}
use Rattle.rules.specs.Segments.{fresh, Place}
use Rattle.rules.specs.Prices.{Tech}
use Rattle.rules.specs.Steps.{step, priced}
use Rattle.rules.specs.Places.{place_code, GoodPlace, dearest_move}
use Rattle.rules.specs.Structs.{tech_by, cost_of, owed_cost, place_of}
use Rattle.rules.specs.declared.price.Prices.{Prices}
use Rattle.heap.specs.Heaps.{most_items, key_of}
use Rattle.search.specs.Fronts.{left_at}
use Rattle.search.specs.declared.settled.Settled.{Settled}
use Rattle.search.specs.declared.tries.Arrival.{Arrival}
use Rattle.search.specs.declared.tries.Attempt.{Attempt}

-- a good place, with the coordinates of its vertex, at a cost that fits
pub record AtPlace (p : Prices) (s : Settled) : Type 0 where
  pub good : GoodPlace (tech_by p.tech) (place_of s.place)
  pub is : s.vertex ≡ vertex_struct (vertex_by (grid_of p.tech.grid) s.place.vertex)
  pub below : s.distance ≤ dearest_move * most_items

unfoldable pub tried_of : Option Arrival → Step Place
tried_of None = blocked
tried_of (Some a) = to a.price (place_of a.place)

-- what a via owes, where it was asked
unfoldable pub OwedFor : Tech → View → Place → (owed : Option Penalty) → Type 0
OwedFor t view p None = Unit
OwedFor t view p (Some owed) = cost_of owed ≡ owed_cost t view p

-- the number of a vertex's fresh place
unfoldable pub fresh_code : Tech → (v : ℕ) → ℕ
fresh_code t v = place_code t (record { vertex = v; segment = fresh })

-- a place has a key that a move from a distance at a price does not lower
pub record Passed (t : Tech) (bounds work : List ℕ) (distance price c : ℕ) : Type 0 where
  pub touched : 0 < key_of (get_or work c 0)
  pub within : key_of (get_or work c 0) ≤ suc (16 * (distance + price) + left_at t bounds c)

-- what was tried is the move, or it is passed over: it lowers no key
pub record Attempted (t : Tech) (view : View) (bounds work : List ℕ) (p : Place) (distance number : ℕ) (a : Attempt) : Type 0 where
  pub owed : OwedFor t view p a.owed
  pub tried : (tried_of a.tried ≡ priced (step t view p number))
      ⊎ ((a.tried ≡ None) × ((c : ℕ) (q : Place) → priced (step t view p number) ≡ to c q → Passed t bounds work distance c (place_code t q)))
