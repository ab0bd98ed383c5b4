-- A system of priced moves: places, numbered moves from each, and goals.
-- Specification: sections 2 and 3.3.
--     Step         what a move leads to
--     System       places, moves, goals
--     Legal        a move that is not blocked
use Rattle.std.specs.Prelude.{ℕ, ◌<◌, ◌≡◌, Bool}

-- a move is blocked, or has a price and leads to a place
pub data Step (P : Type 0) : Type 0 where
  blocked : Step P
  to : (price : ℕ) (next : P) → Step P

pub record System : Type 1 where
  pub Place : Type 0
  pub moves : ℕ
  pub step : Place → (move : ℕ) → Step Place
  pub goal : Place → Bool

-- from s move m is legal: it is one of the moves, has price p and leads to t
pub record Legal (S : System) (s : S.Place) (m p : ℕ) (t : S.Place) : Type 0 where
  pub known : m < S.moves
  pub leads : S.step s m ≡ to p t
