-- The cheapest way to a goal, the first by move number among equals.
-- Specification: section 3.2.
--     Found, cheaper, cheapest_of     a cost with the moves that have it, or none; the cheapest of several
--     cheapest_in                     the cheapest in at most so many moves
-- `cheapest_in` is never to be evaluated: it tries every move list.
use Rattle.std.specs.Prelude.{ℕ, zero, suc, ◌+◌, List, [], ◌∷◌, cond, ltb}
use Rattle.paths.specs.Systems.{Step, blocked, to, System}

pub data Found : Type 0 where
  none : Found
  found : (cost : ℕ) (moves : List ℕ) → Found

-- the cheaper of two, the first of equals
unfoldable pub cheaper : Found → Found → Found
cheaper none b = b
cheaper (found c ms) none = found c ms
cheaper (found c ms) (found d ns) = cond (ltb d c) (found d ns) (found c ms)

-- the cheapest of the first n, the first of equals
unfoldable pub cheapest_of : (ℕ → Found) → (n : ℕ) → Found
cheapest_of E zero = none
cheapest_of E (suc n) = cheaper (cheapest_of E n) (E n)

-- a move at a price before what is found
unfoldable pub before : (m price : ℕ) → Found → Found
before m p none = none
before m p (found c ms) = found (p + c) (m ∷ ms)

-- a move and what is found from the place that it leads to
unfoldable pub onward : {P : Type 0} → (m : ℕ) → (P → Found) → Step P → Found
onward m find blocked = none
onward m find (to p t) = before m p (find t)

-- the cheapest way from a place to a goal in at most k moves
unfoldable pub cheapest_in : (S : System) → (k : ℕ) → S.Place → Found
cheapest_in S zero s = cond (S.goal s) (found 0 []) none
cheapest_in S (suc k) s = cond (S.goal s) (found 0 []) (cheapest_of (λ m. onward m (cheapest_in S k) (S.step s m)) S.moves)
