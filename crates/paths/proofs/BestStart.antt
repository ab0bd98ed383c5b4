-- The best start, by a forward search.
--     forward_none     where the search found no goal, no start is best
--     some_start       where it found C, some start is on a cheapest join
--     start_best       the lowest start on a cheapest join is the best, at C
use Prim.Native.Nat.{ℕ, ◌<◌}
use native.Mathlib.Omega.{arith}
use mathlib.Core.Path.{◌≡◌, refl, sym, ◌∙◌}
use mathlib.Core.Bool.{Bool, true, false}
use Rattle.paths.specs.Systems.{System}
use Rattle.paths.specs.Tables.{Lawful, within, Table}
use Rattle.paths.specs.Costs.{Cost, fin, inf}
use Rattle.paths.specs.Starts.{none, first, best, Starts, start_cost}
use Rattle.paths.specs.Foremost.{Chosen, GoodStarts}
use Rattle.paths.specs.Forward.{LowerBound, Forward}
use Rattle.paths.specs.Leads.{OnBest}
use Rattle.paths.proofs.Costs.{within_only, within_inf}
use Rattle.paths.proofs.Routes.{route_rival}
use Rattle.paths.proofs.Tables.{table_bounds}
use Rattle.paths.proofs.Starts.{best_only}
use Rattle.paths.proofs.Joins.{at_start, is_start_lem}
use Rattle.paths.proofs.Forward.{forward_least, forward_some}
use Rattle.paths.proofs.OnBest.{some_route, start_on, on_start}

module _ {S : System} {Good : S.Place → Type 0} {code : S.Place → ℕ} {size dearest : ℕ} (laws : Lawful S Good code size dearest)
    {D : S.Place → Cost} (T : Table S Good D) {X : Starts S} (ok : GoodStarts S Good X) {h : S.Place → ℕ} (low : LowerBound S Good h)
    {E : S.Place → Cost} where
  -- no start has less than the search found
  start_dear : (C : Cost) → Forward S Good X h E C → (v : ℕ) → v < X.many → within C (start_cost X D v)
  unfolding start_cost
  start_dear C F v below = by (X.is_start v) refl (D (X.place v)) refl
    where
      by : (b : Bool) → X.is_start v ≡ b → (c : Cost) → D (X.place v) ≡ c → within C (start_cost X D v)
      by false is c left = rw is (within_inf C)
      by true is inf left = rw (is, left) (within_inf C)
      by true is (fin d) left =
          let (ms, route) = some_route laws T (ok.good below is) (ok.no_goal below is) left in
          rw (is, left) (forward_least laws low F ok below is (route_rival route))

  -- where the search found no goal, no start is best
  pub forward_none : Forward S Good X h E inf → best (start_cost X D) X.many ≡ none
  forward_none F = sym (best_only (start_cost X D) X.many none all)
    where
      all : (v : ℕ) → v < X.many → start_cost X D v ≡ inf
      all v below = within_only (start_cost X D v) inf (within_inf (start_cost X D v)) (start_dear inf F v below)

  module _ {C : ℕ} (F : Forward S Good X h E (fin C)) where
    -- some start is on a cheapest join
    pub some_start : (v : ℕ) × (v < X.many) × (X.is_start v ≡ true) × OnBest S E C D (X.place v)
    some_start =
        let (v, ms, joins) = forward_some laws low F refl in
        let is = joins.is_start in
        let up = table_bounds laws T (ok.good joins.below is) (route_rival joins.route) in
        let down = rw (at_start X D is) at (start_dear (fin C) F v joins.below) in
        (v, joins.below, is, start_on laws T ok low F joins.below is (within_only (D (X.place v)) (fin C) up down))

    -- the lowest start on a cheapest join is the best, at C
    pub start_best : {v : ℕ} → v < X.many → X.is_start v ≡ true → OnBest S E C D (X.place v)
        → ((w : ℕ) → w < v → X.is_start w ≡ true → OnBest S E C D (X.place w) → ⊥) → best (start_cost X D) X.many ≡ first v C
    start_best {v} below is on lowest = sym (best_only (start_cost X D) X.many (first v C) chosen)
      where
        none_lower : (w : ℕ) → w < v → start_cost X D w ≡ fin C → ⊥
        none_lower w less cost =
            let also = is_start_lem X D w C cost in
            lowest w less also (start_on laws T ok low F (omega arith) also (sym (at_start X D also) ∙ cost))

        chosen : Chosen (start_cost X D) X.many v C
        chosen = record {
          below = below;
          cost = at_start X D is ∙ on_start laws T ok low F below is on;
          least = start_dear (fin C) F;
          lowest = none_lower;
        }
