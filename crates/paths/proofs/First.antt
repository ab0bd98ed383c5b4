-- Following a table gives the first of the cheapest routes.
--     follow_route      it is a route, at the table's cost
--     follow_short      it has fewer moves than there are places
--     follow_first      no route of that cost has moves that come before
use Prim.Native.Nat.{ℕ, zero, suc, ◌+◌, ◌≤◌, ◌<◌}
use native.Mathlib.Omega.{arith}
use native.Mathlib.Nat.{add-zero}
use native.Mathlib.Decide.{ℕ_discrete}
use mathlib.Core.Path.{◌≡◌, refl, sym, ap, ◌∙◌}
use mathlib.Core.Logic.{◌⊎◌, inl, inr}
use mathlib.Core.List.{List, ◌∷◌}
use mathlib.Core.Bool.{Bool, true, false}
use lib.ListN.{length, length-take}
use lib.Seq.{take_all}
use Rattle.paths.specs.Systems.{System, Legal}
use Rattle.paths.specs.Tables.{Lawful, Table}
use Rattle.paths.specs.Rivals.{Route, Before, ends, lower, later}
use Rattle.paths.specs.Distances.{lowest_keeping, follow}
use Rattle.paths.specs.Costs.{Cost, fin, inf}
use Rattle.paths.proofs.Costs.{within_fin}
use Rattle.paths.proofs.Routes.{route_rival, Rest, done, more, rest_more}
use Rattle.paths.proofs.Loops.{cheapest_short}
use Rattle.paths.proofs.Following.{cost_keeps, lowest_keeps, follow_none, follow_goal, follow_inf, follow_step, follow_take}
use Rattle.paths.proofs.Following.{Kept, kept, follow_rest}
use Rattle.paths.proofs.Tables.{table_bounds, table_exact}

-- a move put before both
cons_first : (m : ℕ) {ms fs : List ℕ} → (ms ≡ fs) ⊎ Before fs ms → (m ∷ ms ≡ m ∷ fs) ⊎ Before (m ∷ fs) (m ∷ ms)
cons_first m (inl e) = inl (cc)
cons_first m (inr b) = inr (later b)

module _ {S : System} {Good : S.Place → Type 0} {code : S.Place → ℕ} {size dearest : ℕ} (laws : Lawful S Good code size dearest)
    {D : S.Place → Cost} (T : Table S Good D) where
  -- ---- a route

  -- a route at the table's cost has fewer than size moves
  cost_short : {s : S.Place} {ms : List ℕ} {n : ℕ} → Good s → S.goal s ≡ false → D s ≡ fin n → Route S s ms n → length ms < size
  cost_short good g e r = cheapest_short laws good g r (λ ns d q. rw e at (table_bounds laws T good (route_rival q)))

  -- with as many moves more as the cost it is a route
  follow_long : {s : S.Place} {n : ℕ} (k : ℕ) → Good s → S.goal s ≡ false → D s ≡ fin n → Route S s (follow S D (k + n) s) n
  follow_long {n = n} k good g e = rest_more g (follow_rest laws T (k + n) (omega arith) good e)

  -- as many moves as there are places are enough
  follow_enough : {s : S.Place} {n : ℕ} (k : ℕ) → size ≤ k → Good s → S.goal s ≡ false → D s ≡ fin n → follow S D (k + n) s ≡ follow S D k s
  follow_enough {s} {n} k enough good g e =
      sym (take_all k (follow S D (k + n) s) (omega (arith, cost_short good g e (follow_long k good g e)))) ∙ follow_take S D k (k + n) s (omega arith)

  -- it is a route, at the table's cost
  pub follow_route : {s : S.Place} {n : ℕ} (k : ℕ) → size ≤ k → Good s → S.goal s ≡ false → D s ≡ fin n → Route S s (follow S D k s) n
  follow_route k enough good g e = rw (follow_enough k enough good g e) at (follow_long k good g e)

  -- it has fewer moves than there are places
  pub follow_short : {s : S.Place} (k : ℕ) → Good s → length (follow S D k s) < size
  follow_short {s} k good = by (S.goal s) refl (D s) refl
    where
      by : (b : Bool) → S.goal s ≡ b → (v : Cost) → D s ≡ v → length (follow S D k s) < size
      by true g v e = rw (follow_goal S D k g) (omega (arith, laws.below good))
      by false g inf e = rw (follow_inf S D k g e) (omega (arith, laws.below good))
      by false g (fin n) e =
          rw (← (follow_take S D k (k + n) s (omega arith)))
          (omega (arith, length-take k (follow S D (k + n) s), cost_short good g e (follow_long k good g e)))

  -- ---- the first

  -- where a move and what is left after it cost what the table says, the table says what is left
  tight : {s t : S.Place} {m p c n : ℕ} {ms : List ℕ} → Good s → S.goal s ≡ false → D s ≡ fin n → Legal S s m p t → p + c ≡ n → Rest S t ms c
      → D t ≡ fin c
  tight {t = t} {c = c} good g e legal sum rest =
      let (d, is, up) = within_fin (D t) c ((table_exact laws T (laws.keeps good legal)).bounds rest) in
      let down = rw (e, legal.leads, is) at (T.settled good g legal.known) in
      is ∙ ap fin (omega arith)

  -- one move: the lowest that keeps the cost is no higher, and after the same move the rest decides
  step_first : {s t : S.Place} {m p c n : ℕ} {ms : List ℕ} (k : ℕ) → Good s → S.goal s ≡ false → D s ≡ fin n → Legal S s m p t → p + c ≡ n
      → Rest S t ms c → (ms ≡ follow S D k t) ⊎ Before (follow S D k t) ms → (m ∷ ms ≡ follow S D (suc k) s) ⊎ Before (follow S D (suc k) s) (m ∷ ms)
  step_first {s} {t} {m} {n = n} {ms = ms} k good g e legal sum rest after = rw (follow_step S D k g e on.legal.leads) (by (ℕ_discrete low m))
    where
      low : ℕ
      low = lowest_keeping S D s n

      on : Kept S Good D s n
      on = kept laws T good g e

      by : Dec (low ≡ m) → (m ∷ ms ≡ low ∷ follow S D k on.next) ⊎ Before (low ∷ follow S D k on.next) (m ∷ ms)
      by (yes is) =
          let now = on.legal.leads in
          let leads = legal.leads in
          let same : on.next ≡ t = cc in
          rw (is, same) (cons_first m after)
      by (no is) =
          let entry = tight good g e legal sum rest in
          let (h, keep) = lowest_keeps S D s n m legal.known (cost_keeps S D s n m (rw (legal.leads, entry) (ap fin sum))) in
          let down : low < m = omega arith in inr (lower down)

  -- no route of that cost has moves that come before, whatever the number of moves followed
  pub follow_first : {s : S.Place} {ms : List ℕ} {n : ℕ} (k : ℕ) → Good s → S.goal s ≡ false → D s ≡ fin n → Route S s ms n
      → (ms ≡ follow S D k s) ⊎ Before (follow S D k s) ms
  follow_first zero good g e (Route.enters {s = s} legal goal) = rw (follow_none S D s) (inr ends)
  follow_first zero good g e (Route.walks {s = s} legal no_goal_lem r) = rw (follow_none S D s) (inr ends)
  follow_first (suc k) good g e (Route.enters {p = p} legal goal) =
      step_first k good g e legal (add-zero p) (done goal) (inl (sym (follow_goal S D k goal)))
  follow_first {s = s} (suc k) good g e (Route.walks {t = t} {m = m} {p = p} {c = c} {ms = ms} legal no_goal_lem r) =
      let entry = tight good g e legal refl (more no_goal_lem r) in
      step_first k good g e legal refl (more no_goal_lem r) (follow_first {s = t} k (laws.keeps good legal) no_goal_lem entry r)
