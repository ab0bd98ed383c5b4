-- Walks to a goal.
-- Specification: sections 3.2 and 3.3.
--     Rival           a list of moves, one or more, legal move by move, that enters a goal with its last
--                     move, and its cost
--     Route           a rival that enters no goal before
--     Before          the order of move lists: the one that comes first by move number
--     Join, Ahead     a start with moves and a cost; which of two joins is taken
use Rattle.std.specs.Prelude.{ℕ, ◌+◌, ◌<◌, ◌≡◌, List, [], ◌∷◌, true, false}
use Rattle.paths.specs.Systems.{System, Legal}

module _ (S : System) where
  -- from a place, by these moves, at this cost
  pub data Rival : S.Place → List ℕ → ℕ → Type 0 where
    enters : {s t : S.Place} {m p : ℕ} → Legal S s m p t → S.goal t ≡ true → Rival s (m ∷ []) p
    walks : {s t : S.Place} {m p c : ℕ} {ms : List ℕ} → Legal S s m p t → Rival t ms c → Rival s (m ∷ ms) (p + c)

  -- a rival whose last move is the first to enter a goal
  pub data Route : S.Place → List ℕ → ℕ → Type 0 where
    enters : {s t : S.Place} {m p : ℕ} → Legal S s m p t → S.goal t ≡ true → Route s (m ∷ []) p
    walks : {s t : S.Place} {m p c : ℕ} {ms : List ℕ} → Legal S s m p t → S.goal t ≡ false → Route t ms c → Route s (m ∷ ms) (p + c)

-- "the move list that comes first by move number": at the first difference the lower move; a list comes
-- before its continuations
pub data Before : List ℕ → List ℕ → Type 0 where
  ends : {n : ℕ} {ns : List ℕ} → Before [] (n ∷ ns)
  lower : {m n : ℕ} {ms ns : List ℕ} → m < n → Before (m ∷ ms) (n ∷ ns)
  later : {m : ℕ} {ms ns : List ℕ} → Before ms ns → Before (m ∷ ms) (m ∷ ns)

pub record Join : Type 0 where
  pub cost : ℕ
  pub start : ℕ
  pub moves : List ℕ

-- "the cheapest is taken; among equals the lowest start, then the move list that comes first by move number"
pub data Ahead (j k : Join) : Type 0 where
  by_cost : j.cost < k.cost → Ahead j k
  by_start : j.cost ≡ k.cost → j.start < k.start → Ahead j k
  by_moves : j.cost ≡ k.cost → j.start ≡ k.start → Before j.moves k.moves → Ahead j k
