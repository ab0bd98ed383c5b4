-- The join that no other is ahead of.
--     Chosen, Chooses    the lowest of the cheapest numbers, said without a recursion
--     GoodStarts         each start is a good place and no goal
--     Joins, Foremost    a join from a start of a system; the one that no other is ahead of
--     join_from          the join from a start that follows a table
use Rattle.std.specs.Prelude.{ℕ, ◌<◌, ◌≡◌, true, false}
use Rattle.paths.specs.Systems.{System}
use Rattle.paths.specs.Rivals.{Route, Join, Ahead}
use Rattle.paths.specs.Distances.{follow}
use Rattle.paths.specs.Costs.{Cost, fin, inf}
use Rattle.paths.specs.Tables.{within}
use Rattle.paths.specs.Starts.{Choice, none, first, Starts}

-- number i below n has cost c, no other has less, and no lower one as little
pub record Chosen (E : ℕ → Cost) (n i c : ℕ) : Type 0 where
  pub below : i < n
  pub cost : E i ≡ fin c
  pub least : (j : ℕ) → j < n → within (fin c) (E j)
  pub lowest : (j : ℕ) → j < i → E j ≡ fin c → ⊥

-- none is chosen where every cost is infinite
abbrev pub Chooses : (ℕ → Cost) → (n : ℕ) → Choice → Type 0
Chooses E n none = (j : ℕ) → j < n → E j ≡ inf
Chooses E n (first i c) = Chosen E n i c

-- each start is a good place and no goal
pub record GoodStarts (S : System) (Good : S.Place → Type 0) (X : Starts S) : Type 0 where
  pub good : {v : ℕ} → v < X.many → X.is_start v ≡ true → Good (X.place v)
  pub no_goal : {v : ℕ} → v < X.many → X.is_start v ≡ true → S.goal (X.place v) ≡ false

-- a route from a start
pub record Joins (S : System) (X : Starts S) (j : Join) : Type 0 where
  pub below : j.start < X.many
  pub is_start : X.is_start j.start ≡ true
  pub route : Route S (X.place j.start) j.moves j.cost

-- a join that no other is ahead of
pub record Foremost (S : System) (X : Starts S) (j : Join) : Type 0 where
  pub joins : Joins S X j
  pub first : (k : Join) → Joins S X k → Ahead k j → ⊥

-- from start v, at cost c, the moves that follow D, at most k of them
abbrev pub join_from : {S : System} → Starts S → (S.Place → Cost) → (k v c : ℕ) → Join
join_from {S} X D k v c = record { cost = c; start = v; moves = follow S D k (X.place v) }
