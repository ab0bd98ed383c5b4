-- What a list of moves leaves, with what stands in arrays.
--     Arrays, enter_by       the bytes of the tree and the map's codes; what a move leaves
--     Gone, gone_at, gone_on  where the moves so far have led, and what they did
--     Entered, enter_all     a list of moves
--     left_in                the arrays that it leaves
use Rattle.std.specs.Prelude.{ℕ, List, [], ◌∷◌, ◌++◌, set}
use Rattle.rules.specs.Views.{View}
use Rattle.rules.specs.Segments.{Place}
use Rattle.rules.specs.Prices.{Tech}
use Rattle.rules.specs.Steps.{Made, Stepped, illegal, legal, step}
use Rattle.rules.specs.Walks.{start_at}
use Rattle.metal.specs.Codes.{lay_all}

-- the bytes of the tree, and the map's codes
pub record Arrays : Type 0 where
  pub spots : List ℕ
  pub codes : List ℕ

-- the vertices of its extension and the vertex that it enters become metal of net n, and that vertex enters
-- the tree
unfoldable pub enter_by : (n : ℕ) → Made → Arrays → Arrays
enter_by n made arrays =
    record {
      spots = set arrays.spots made.next.vertex 1;
      codes = lay_all n (made.laid ++ (made.next.vertex ∷ [])) arrays.codes;
    }

-- where the moves so far have led, and what they did
pub record Gone : Type 0 where
  pub place : Place
  pub made : List Made

unfoldable pub gone_at : (start : ℕ) → Gone
gone_at start = record { place = start_at start; made = [] }

unfoldable pub gone_on : Gone → Made → Gone
gone_on gone made = record { place = made.next; made = gone.made ++ (made ∷ []) }

-- all moves were entered, or one is not legal
pub data Entered : Type 0 where
  stuck : Entered
  entered : Gone → Arrays → Entered

unfoldable pub and_enter : Stepped → (Made → Entered) → Entered
and_enter illegal rest = stuck
and_enter (legal made) rest = rest made

-- each move is entered before the next is made
unfoldable pub enter_all : Tech → View → (net : ℕ) → (moves : List ℕ) → Gone → Arrays → Entered
enter_all t view net [] gone arrays = entered gone arrays
enter_all t view net (m ∷ ms) gone arrays =
    and_enter (step t view gone.place m) (λ made. enter_all t view net ms (gone_on gone made) (enter_by net made arrays))

-- moves that are stuck leave what was found
unfoldable pub left_in : (found : Arrays) → Entered → Arrays
left_in found stuck = found
left_in found (entered gone arrays) = arrays
