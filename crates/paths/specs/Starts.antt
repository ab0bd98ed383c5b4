-- The cheapest of numbered starts, the lowest number first.
--     Choice, best          the lowest number below n with the least finite cost, or none
--     Starts, start_cost    numbered starts of a system; the cost from each
use Rattle.std.specs.Prelude.{ℕ, zero, suc, Bool, cond, ltb}
use Rattle.paths.specs.Systems.{System}
use Rattle.paths.specs.Costs.{Cost, fin, inf}

-- ---- the lowest of the cheapest

pub data Choice : Type 0 where
  none : Choice
  first : (number cost : ℕ) → Choice

-- what was chosen before, unless the next is cheaper
unfoldable pub or_next : Choice → (next : ℕ) → Cost → Choice
or_next b n inf = b
or_next none n (fin d) = first n d
or_next (first i c) n (fin d) = cond (ltb d c) (first n d) (first i c)

-- the lowest number below n with the least finite cost
unfoldable pub best : (ℕ → Cost) → (n : ℕ) → Choice
best E zero = none
best E (suc n) = or_next (best E n) n (E n)

-- ---- starts of a system

-- the numbers below `many` that are starts, and the place of each
pub record Starts (S : System) : Type 0 where
  pub many : ℕ
  pub is_start : ℕ → Bool
  pub place : ℕ → S.Place

-- the cost from a number, infinite where the number is no start
unfoldable pub start_cost : {S : System} → Starts S → (S.Place → Cost) → ℕ → Cost
start_cost X D v = cond (X.is_start v) (D (X.place v)) inf
