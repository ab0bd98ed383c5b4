-- Lists of moves that join a net.
-- Specification: sections 3.2 and 3.3.
--     system                  places and priced moves, with the unjoined pins as goals
--     Rival, Route            a list of moves from the tree to an unjoined pin
--     Walked, walk            where a list of moves leads, with what each did
--     vertices_of, laid_of    the vertices that moves entered, and those that they laid
--     total, walk_cost, ..    a sum over moves: their cost, added steps and penalised segments
use Rattle.std.specs.Prelude.{ℕ, ◌+◌, ◌≡◌, true}
use mathlib.Core.List.{List, [], ◌∷◌, map, flat_map}
use Rattle.paths.specs.Systems.{System}
use Rattle.paths.specs.Rivals.{Rival as RivalFrom, Route as RouteFrom}
use Rattle.rules.specs.Views.{View, member}
use Rattle.rules.specs.Segments.{paid, Place}
use Rattle.rules.specs.Prices.{Tech}
use Rattle.rules.specs.Steps.{Made, Stepped, illegal, legal, step, price_of, priced}

-- moves 0 to 3; a place on an unjoined pin is a goal
abbrev pub system : Tech → View → (unjoined : List ℕ) → System
system t view unjoined =
    record {
      Place = Place;
      moves = 4;
      step = λ p m. priced (step t view p m);
      goal = λ p. member p.vertex unjoined;
    }

-- "paid with no direction"
unfoldable pub start_at : ℕ → Place
start_at v = record { vertex = v; segment = paid }

-- "A rival of a record is any list of moves, one or more, that starts at a vertex of that tree, paid with no
-- direction, is legal move by move against that metal, and enters with its last move an unjoined pin of the
-- net; one that enters such a pin on its way counts too."
pub record Rival (t : Tech) (view : View) (tree unjoined : List ℕ) (start : ℕ) (moves : List ℕ) (cost : ℕ) : Type 0 where
  pub on_tree : member start tree ≡ true
  pub walks : RivalFrom (system t view unjoined) (start_at start) moves cost

-- "A join starts at any tree vertex and ends with its first entry of an unjoined pin."
pub record Route (t : Tech) (view : View) (tree unjoined : List ℕ) (start : ℕ) (moves : List ℕ) (cost : ℕ) : Type 0 where
  pub on_tree : member start tree ≡ true
  pub walks : RouteFrom (system t view unjoined) (start_at start) moves cost

-- where a list of moves leads, with what each of them did; or that one is not legal
pub data Walked : Type 0 where
  stuck : Walked
  walked : (last : Place) (made : List Made) → Walked

-- a move, then the rest
unfoldable pub after : Made → Walked → Walked
after made stuck = stuck
after made (walked last rest) = walked last (made ∷ rest)

unfoldable pub go_on : (Place → Walked) → Stepped → Walked
go_on rest illegal = stuck
go_on rest (legal made) = after made (rest made.next)

unfoldable pub walk : Tech → View → Place → (moves : List ℕ) → Walked
walk t view p [] = walked p []
walk t view p (m ∷ ms) = go_on (λ q. walk t view q ms) (step t view p m)

-- ---- what moves did, summed up

-- the vertices entered, in order
abbrev pub vertices_of : List Made → List ℕ
vertices_of = map (λ m. m.next.vertex)

-- the vertices laid
abbrev pub laid_of : List Made → List ℕ
laid_of = flat_map (λ m. m.laid)

-- the sum of a number of each move
unfoldable pub total : (Made → ℕ) → List Made → ℕ
total number [] = 0
total number (made ∷ rest) = number made + total number rest

-- "Its cost is the sum over its moves of the price of entering and the overhead."
abbrev pub walk_cost : List Made → ℕ
walk_cost = total (λ m. price_of m)

-- "added steps (M − n for each extension), penalised segments"
abbrev pub walk_added : List Made → ℕ
walk_added = total (λ m. m.added)

abbrev pub walk_penalties : List Made → ℕ
walk_penalties = total (λ m. m.penalties)
