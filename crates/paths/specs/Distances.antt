-- The least cost to a goal, and the route that has it.
--     least             the lesser of two costs
--     least_of          the least of the first n costs
--     dist              the least cost in at most so many moves (0 at a goal)
--     lowest_keeping    the lowest move that keeps the table's cost
--     follow            the route that takes it at each place
-- `dist` is never to be evaluated: its cost explodes. A concrete table is shown to be a `Table` (Tables), and
-- so to be `dist`.
use Rattle.std.specs.Prelude.{ℕ, zero, suc, min, List, [], ◌∷◌, Bool, true, false, cond, eqb}
use Rattle.paths.specs.Systems.{Step, blocked, to, System}
use Rattle.paths.specs.Costs.{Cost, fin, inf, plus}

unfoldable pub least : Cost → Cost → Cost
least (fin m) (fin n) = fin (min m n)
least (fin m) inf = fin m
least inf c = c

-- the least of the first n costs
unfoldable pub least_of : (ℕ → Cost) → (n : ℕ) → Cost
least_of E zero = inf
least_of E (suc n) = least (least_of E n) (E n)

-- the cost of a move and then of what it leads to
abbrev pub through : {P : Type 0} → (P → Cost) → Step P → Cost
through D blocked = inf
through D (to p t) = plus p (D t)

-- whether a cost is c
unfoldable pub is_cost : ℕ → Cost → Bool
is_cost c (fin n) = eqb n c
is_cost c inf = false

-- the lowest of the n numbers from m on that pass a test, or the one past them
unfoldable pub lowest_from : (ℕ → Bool) → (m n : ℕ) → ℕ
lowest_from test m zero = m
lowest_from test m (suc n) = elim (test m) [ true ↦ m | false ↦ lowest_from test (suc m) n ]

-- a move and what follows the place that it leads to
unfoldable pub onward : {P : Type 0} → (m : ℕ) → (P → List ℕ) → Step P → List ℕ
onward m next blocked = []
onward m next (to p t) = m ∷ next t

module _ (S : System) where
  -- the least cost to a goal in at most k moves
  unfoldable pub dist : ℕ → S.Place → Cost
  dist zero s = cond (S.goal s) (fin 0) inf
  dist (suc k) s = cond (S.goal s) (fin 0) (least_of (λ m. through (dist k) (S.step s m)) S.moves)

  -- whether a move, and then what it leads to, has just the cost c
  unfoldable pub keeps : (S.Place → Cost) → S.Place → (c m : ℕ) → Bool
  keeps D s c m = is_cost c (through D (S.step s m))

  -- the lowest move that keeps the cost c
  unfoldable pub lowest_keeping : (S.Place → Cost) → S.Place → (c : ℕ) → ℕ
  lowest_keeping D s c = lowest_from (keeps D s c) 0 S.moves

  -- the lowest move that keeps a finite cost, and what follows
  unfoldable pub move_on : (S.Place → Cost) → S.Place → Cost → (S.Place → List ℕ) → List ℕ
  move_on D s inf next = []
  move_on D s (fin c) next = let m = lowest_keeping D s c in onward m next (S.step s m)

  -- the route from a place with a finite entry: at each place the lowest move that keeps the entry, until a
  -- goal, at most k moves
  unfoldable pub follow : (S.Place → Cost) → (k : ℕ) → S.Place → List ℕ
  follow D zero s = []
  follow D (suc k) s = elim (S.goal s) [ true ↦ [] | false ↦ move_on D s (D s) (λ t. follow D k t) ]
