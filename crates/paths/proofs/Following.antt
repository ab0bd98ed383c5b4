-- Following a table, move by move.
--     keeps_cost, cost_keeps                   a move keeps a cost where it has just that cost with what it
--                                              leads to
--     lowest_keeps                             where a move keeps a cost, the lowest that does is no higher
--     follow_none, follow_goal, follow_inf     nothing is followed with no move left, at a goal, and where
--                                              the cost is infinite
--     follow_step                              else the lowest move that keeps the cost, then the rest
--     follow_take                              fewer moves are the first of more
--     Onward, follow_onward                    where something is followed: the first move, and the rest
--     Kept, kept                               in a table the lowest move that keeps a finite entry is legal,
--                                              and what it leads to
--     follow_rest                              with as many moves as the cost, following a table ends in a
--                                              goal at the table's cost
use Prim.Native.Nat.{ℕ, zero, suc, ◌+◌, ◌≤◌, ◌<◌}
use native.Mathlib.Omega.{arith}
use mathlib.Core.Path.{◌≡◌, refl, sym, ap, fun_ext}
use mathlib.Core.List.{List, [], ◌∷◌}
use mathlib.Core.Bool.{Bool, true, false, true≢false}
use borrow.Author.Tests.{eqb-true, eq-eqb}
use lib.ListN.{length, take}
use Rattle.paths.specs.Systems.{Step, blocked, to, System, Legal}
use Rattle.paths.specs.Tables.{Lawful, Table}
use Rattle.paths.specs.Distances.{through, is_cost, onward, keeps, lowest_keeping, move_on, follow}
use Rattle.paths.specs.Costs.{Cost, fin, inf}
use Rattle.paths.proofs.Costs.{within_only, through_fin}
use Rattle.paths.proofs.Routes.{Rest, done, more, rest_route}
use Rattle.paths.proofs.Lowest.{lowest_passes}

-- a cost that passes the test is c
pub is_cost_lem : (c : ℕ) (v : Cost) → is_cost c v ≡ true → v ≡ fin c
unfolding is_cost
is_cost_lem c (fin n) e = ap fin (eqb-true n c e)
is_cost_lem c inf e = absurd (true≢false (sym e))

-- c passes the test
pub cost_is : (c : ℕ) (v : Cost) → v ≡ fin c → is_cost c v ≡ true
unfolding is_cost
cost_is c v e = rw e (eq-eqb c c refl)

-- the first of a move and what follows it
onward-take : {P : Type 0} (m k : ℕ) (next : P → List ℕ) (x : Step P) → take (suc k) (onward m next x) ≡ onward m (λ t. take k (next t)) x
unfolding onward
onward-take m k next blocked = refl
onward-take m k next (to p t) = refl

module _ (S : System) (D : S.Place → Cost) where
  -- ---- one move

  -- a move that keeps c has just that cost with what it leads to
  pub keeps_cost : (s : S.Place) (c m : ℕ) → keeps S D s c m ≡ true → through D (S.step s m) ≡ fin c
  unfolding keeps
  keeps_cost s c m e = is_cost_lem c (through D (S.step s m)) e

  -- a move that has just that cost with what it leads to keeps c
  pub cost_keeps : (s : S.Place) (c m : ℕ) → through D (S.step s m) ≡ fin c → keeps S D s c m ≡ true
  unfolding keeps
  cost_keeps s c m e = cost_is c (through D (S.step s m)) e

  -- where a move keeps c, the lowest that does is no higher
  pub lowest_keeps : (s : S.Place) (c j : ℕ) → j < S.moves → keeps S D s c j ≡ true
      → (lowest_keeping S D s c ≤ j) × (keeps S D s c (lowest_keeping S D s c) ≡ true)
  unfolding lowest_keeping
  lowest_keeps s c j known e = lowest_passes (keeps S D s c) 0 S.moves j (omega arith) (omega arith) e

  -- ---- following

  -- nothing is followed with no move left
  pub follow_none : (s : S.Place) → follow S D 0 s ≡ []
  unfolding follow
  follow_none s = refl

  -- nothing is followed from a goal
  pub follow_goal : (k : ℕ) {s : S.Place} → S.goal s ≡ true → follow S D k s ≡ []
  unfolding follow
  follow_goal zero g = refl
  follow_goal (suc k) g = rw (g, follow)

  -- elsewhere a move, by what the table has there
  follow_on : (k : ℕ) {s : S.Place} → S.goal s ≡ false → follow S D (suc k) s ≡ move_on S D s (D s) (follow S D k)
  unfolding follow
  follow_on k g = rw (g, follow)

  -- nothing is followed where the cost is infinite
  pub follow_inf : (k : ℕ) {s : S.Place} → S.goal s ≡ false → D s ≡ inf → follow S D k s ≡ []
  unfolding move_on
  follow_inf zero {s} g e = follow_none s
  follow_inf (suc k) g e = rw (follow_on k g, e)

  -- the lowest move that keeps the cost, then the rest
  pub follow_step : (k : ℕ) {s t : S.Place} {c p : ℕ} → S.goal s ≡ false → D s ≡ fin c → S.step s (lowest_keeping S D s c) ≡ to p t
      → follow S D (suc k) s ≡ lowest_keeping S D s c ∷ follow S D k t
  unfolding move_on onward
  follow_step k g e leads = rw (follow_on k g, e, leads)

  -- the first of a move and what follows it
  move_on_take : (s : S.Place) (v : Cost) (k : ℕ) (next : S.Place → List ℕ) → take (suc k) (move_on S D s v next) ≡ move_on S D s v (λ t. take k (next t))
  unfolding move_on
  move_on_take s inf k next = refl
  move_on_take s (fin c) k next = onward-take _ k next (S.step s (lowest_keeping S D s c))

  -- fewer moves are the first of more
  pub follow_take : (k j : ℕ) (s : S.Place) → k ≤ j → take k (follow S D j s) ≡ follow S D k s
  follow_take zero j s h = sym (follow_none s)
  follow_take (suc k) zero s h = absurd (omega arith)
  follow_take (suc k) (suc j) s h = by (S.goal s) refl (λ t. follow_take k j t (omega arith))
    where
      by : (b : Bool) → S.goal s ≡ b → ((t : S.Place) → take k (follow S D j t) ≡ follow S D k t)
          → take (suc k) (follow S D (suc j) s) ≡ follow S D (suc k) s
      by true g again = rw (follow_goal (suc j) g, follow_goal (suc k) g)
      by false g again = rw (follow_on j g, follow_on k g, move_on_take s (D s) k) (ap (move_on S D s (D s)) (fun_ext again))

-- where something is followed: the entry is finite, the lowest move that keeps it leads on, and the rest
-- follows
pub record Onward (S : System) (D : S.Place → Cost) (k : ℕ) (s : S.Place) : Type 0 where
  pub cost : ℕ
  pub price : ℕ
  pub next : S.Place
  pub left : ℕ
  pub entry : D s ≡ fin cost
  pub leads : S.step s (lowest_keeping S D s cost) ≡ to price next
  pub follows : follow S D k s ≡ lowest_keeping S D s cost ∷ follow S D left next

pub follow_onward : (S : System) (D : S.Place → Cost) (k : ℕ) (s : S.Place) → 0 < length (follow S D k s) → Onward S D k s
unfolding move_on onward
follow_onward S D zero s some = absurd (omega (arith, some, ap (λ (l : List ℕ). length l) (follow_none S D s)))
follow_onward S D (suc k) s some = by_goal (S.goal s) refl
  where
    nothing : follow S D (suc k) s ≡ [] → ⊥
    nothing e = omega (arith, some, ap (λ (l : List ℕ). length l) e)

    by_step : (c : ℕ) → S.goal s ≡ false → D s ≡ fin c → (x : Step S.Place) → S.step s (lowest_keeping S D s c) ≡ x → Onward S D (suc k) s
    by_step c g e blocked leads = absurd (nothing (rw (follow_on S D k g, e, leads)))
    by_step c g e (to p t) leads =
        record { cost = c; price = p; next = t; left = k; entry = e; leads = leads; follows = follow_step S D k g e leads }

    by_cost : S.goal s ≡ false → (c : Cost) → D s ≡ c → Onward S D (suc k) s
    by_cost g inf e = absurd (nothing (follow_inf S D (suc k) g e))
    by_cost g (fin c) e = by_step c g e (S.step s (lowest_keeping S D s c)) refl

    by_goal : (b : Bool) → S.goal s ≡ b → Onward S D (suc k) s
    by_goal true g = absurd (nothing (follow_goal S D (suc k) g))
    by_goal false g = by_cost g (D s) refl

-- ---- following a table

-- the lowest move that keeps a finite entry n, and what it leads to
pub record Kept (S : System) (Good : S.Place → Type 0) (D : S.Place → Cost) (s : S.Place) (n : ℕ) : Type 0 where
  pub price : ℕ
  pub next : S.Place
  pub left : ℕ
  pub legal : Legal S s (lowest_keeping S D s n) price next
  pub good : Good next
  pub entry : D next ≡ fin left
  pub sum : price + left ≡ n

module _ {S : System} {Good : S.Place → Type 0} {code : S.Place → ℕ} {size dearest : ℕ} (laws : Lawful S Good code size dearest)
    {D : S.Place → Cost} (T : Table S Good D) where
  -- in a table some move keeps a finite entry, so the lowest that does is there
  pub kept : {s : S.Place} {n : ℕ} → Good s → S.goal s ≡ false → D s ≡ fin n → Kept S Good D s n
  kept {s} {n} good g e =
      let (j, known, up) = T.supported good g e in
      let is = within_only (through D (S.step s j)) (fin n) up (rw e at (T.settled good g known)) in
      let (low, keep) = lowest_keeps S D s n j known (cost_keeps S D s n j is) in
      let (p, t, d, leads, entry, sum) = through_fin D (S.step s (lowest_keeping S D s n)) n (keeps_cost S D s n _ keep) in
      let legal : Legal S s (lowest_keeping S D s n) p t = record { known = omega arith; leads = leads } in
      record { price = p; next = t; left = d; legal = legal; good = laws.keeps good legal; entry = entry; sum = sum }

  -- at a goal nothing is left
  rest_goal : {s : S.Place} {n : ℕ} (k : ℕ) → Good s → S.goal s ≡ true → D s ≡ fin n → Rest S s (follow S D k s) n
  rest_goal {n = n} k good g e = let none = T.goals good g in let z : n ≡ 0 = cc in rw (follow_goal S D k g, z) (done g)

  -- with as many moves as the cost, following a table ends in a goal at the table's cost
  pub follow_rest : {s : S.Place} {n : ℕ} (k : ℕ) → n ≤ k → Good s → D s ≡ fin n → Rest S s (follow S D k s) n
  follow_rest {s} {n} zero h good e = by (S.goal s) refl
    where
      by : (b : Bool) → S.goal s ≡ b → Rest S s (follow S D 0 s) n
      by true g = rest_goal 0 good g e
      by false g = let on = kept good g e in absurd (omega (arith, on.sum, laws.costs good on.legal))
  follow_rest {s} {n} (suc k) h good e = by (S.goal s) refl (λ t d. follow_rest {s = t} {n = d} k)
    where
      by : (b : Bool) → S.goal s ≡ b → ((t : S.Place) (d : ℕ) → d ≤ k → Good t → D t ≡ fin d → Rest S t (follow S D k t) d)
          → Rest S s (follow S D (suc k) s) n
      by true g again = rest_goal (suc k) good g e
      by false g again =
          let on = kept good g e in
          let less : on.left ≤ k = omega (arith, on.sum, laws.costs good on.legal) in
          rw (follow_step S D k g e on.legal.leads) (more g (rest_route on.legal on.sum (again on.next on.left less on.good on.entry)))
