-- The join from the best start is the one that is taken.
--     at_start, is_start_lem           the cost from a start is its entry; a number with a finite cost is a
--                                      start
--     start_joins, start_first         the best start with what is followed from it is a join, and every
--                                      other join is behind it
--     start_foremost, foremost_only    so it is taken, and no other is
--     start_least, start_none          no rival from a start costs less; where no start is best there is no
--                                      rival
--     start_dist                       a table has the best start that `dist` has
use Prim.Native.Nat.{ℕ, ◌≤◌, ◌<◌}
use native.Mathlib.Omega.{arith}
use native.Mathlib.Nat.{le_refl}
use native.Mathlib.Decide.{ℕ_discrete, dec_lt}
use mathlib.Core.Path.{◌≡◌, refl, sym, ap, subst, ◌∙◌}
use mathlib.Core.Logic.{◌⊎◌, inl, inr}
use mathlib.Core.List.{List}
use mathlib.Core.Bool.{Bool, true, false}
use Rattle.paths.specs.Systems.{System}
use Rattle.paths.specs.Tables.{Lawful, Table}
use Rattle.paths.specs.Rivals.{Rival, Before, Join, Ahead, by_cost, by_start, by_moves}
use Rattle.paths.specs.Distances.{dist, follow}
use Rattle.paths.specs.Costs.{Cost, fin}
use Rattle.paths.specs.Starts.{Choice, none, first, best, Starts, start_cost}
use Rattle.paths.specs.Foremost.{Chooses, GoodStarts, Joins, Foremost, join_from}
use Rattle.paths.proofs.Costs.{inf_not_fin, within_trans, within_only}
use Rattle.paths.proofs.Routes.{route_rival}
use Rattle.paths.proofs.Tables.{table_bounds, table_dist}
use Rattle.paths.proofs.First.{follow_route, follow_first}
use Rattle.paths.proofs.Orders.{ahead_irrefl, ahead_trans, ahead_total}
use Rattle.paths.proofs.Starts.{best_chooses, best-same}

-- no two joins are taken
pub foremost_only : {S : System} {X : Starts S} {j k : Join} → Foremost S X j → Foremost S X k → j ≡ k
foremost_only {j = j} {k = k} x y = by (ahead_total j k)
  where
    by : (j ≡ k) ⊎ Ahead j k ⊎ Ahead k j → j ≡ k
    by (inl e) = e
    by (inr (inl a)) = absurd (y.first j x.joins a)
    by (inr (inr a)) = absurd (x.first k y.joins a)

-- a join is taken where every other is behind it
behind_foremost : {S : System} {X : Starts S} (j : Join) → Joins S X j → ((k : Join) → Joins S X k → (k ≡ j) ⊎ Ahead j k) → Foremost S X j
behind_foremost {S} {X} j joins behind = record { joins = joins; first = λ k x a. by k a (behind k x) }
  where
    by : (k : Join) → Ahead k j → (k ≡ j) ⊎ Ahead j k → ⊥
    by k a (inl e) = ahead_irrefl (rw e at a)
    by k a (inr b) = ahead_irrefl (ahead_trans a b)

module _ {S : System} (X : Starts S) (D : S.Place → Cost) where
  -- the cost from a start is its entry
  pub at_start : {v : ℕ} → X.is_start v ≡ true → start_cost X D v ≡ D (X.place v)
  unfolding start_cost
  at_start e = rw e

  -- a number with a finite cost is a start
  pub is_start_lem : (v c : ℕ) → start_cost X D v ≡ fin c → X.is_start v ≡ true
  unfolding start_cost
  is_start_lem v c e = by (X.is_start v) refl
    where
      by : (b : Bool) → X.is_start v ≡ b → X.is_start v ≡ true
      by true is = is
      by false is = absurd (inf_not_fin (rw is at e))

  -- what the choice of the best start means
  best_is : (b : Choice) → best (start_cost X D) X.many ≡ b → Chooses (start_cost X D) X.many b
  best_is b e = subst (Chooses (start_cost X D) X.many) e (best_chooses (start_cost X D) X.many)

module _ {S : System} {Good : S.Place → Type 0} {code : S.Place → ℕ} {size dearest : ℕ} (laws : Lawful S Good code size dearest)
    {D : S.Place → Cost} (T : Table S Good D) {X : Starts S} (ok : GoodStarts S Good X) where
  -- where no start is best there is no rival from any
  pub start_none : {w : ℕ} {ms : List ℕ} {d : ℕ} → best (start_cost X D) X.many ≡ none → w < X.many → X.is_start w ≡ true
      → Rival S (X.place w) ms d → ⊥
  start_none {w} chosen below is r =
      rw (sym (at_start X D is) ∙ best_is X D none chosen w below) at (table_bounds laws T (ok.good below is) r)

  -- a table has the best start that dist has
  pub start_dist : best (start_cost X D) X.many ≡ best (start_cost X (dist S size)) X.many
  unfolding start_cost
  start_dist = best-same (start_cost X D) (start_cost X (dist S size)) X.many (λ v below. by v below (X.is_start v) refl)
    where
      by : (v : ℕ) → v < X.many → (b : Bool) → X.is_start v ≡ b → start_cost X D v ≡ start_cost X (dist S size) v
      by v below true is = rw is (table_dist laws T (ok.good below is))
      by v below false is = rw is

  module _ {v c : ℕ} (chosen : best (start_cost X D) X.many ≡ first v c) where
    -- no rival from a start costs less
    pub start_least : {w : ℕ} {ms : List ℕ} {d : ℕ} → w < X.many → X.is_start w ≡ true → Rival S (X.place w) ms d → c ≤ d
    start_least {w} {d = d} below is r =
        let least = rw (at_start X D is) at ((best_is X D (first v c) chosen).least w below) in
        within_trans (fin c) (D (X.place w)) (fin d) least (table_bounds laws T (ok.good below is) r)

    -- the best start with what is followed from it is a join
    start_joins : Joins S X (join_from X D size v c)
    start_joins =
        let pick = best_is X D (first v c) chosen in
        let is = is_start_lem X D v c pick.cost in
        let entry = sym (at_start X D is) ∙ pick.cost in
        let route = follow_route laws T size (le_refl size) (ok.good pick.below is) (ok.no_goal pick.below is) entry in
        record { below = pick.below; is_start = is; route = route }

    -- every other join is behind it
    pub start_first : (k : Join) → Joins S X k → (k ≡ join_from X D size v c) ⊎ Ahead (join_from X D size v c) k
    start_first k x = cost (dec_lt c k.cost)
      where
        Behind : Type 0
        Behind = (k ≡ join_from X D size v c) ⊎ Ahead (join_from X D size v c) k

        place : S.Place
        place = X.place k.start

        good : Good place
        good = ok.good x.below x.is_start

        moves : c ≡ k.cost → v ≡ k.start → (k.moves ≡ follow S D size place) ⊎ Before (follow S D size place) k.moves → Behind
        moves e f (inl g) = rw (e, f) (inl (λ i. record { cost = k.cost; start = k.start; moves = g i }))
        moves e f (inr b) = inr (by_moves e f (rw f b))

        start : c ≡ k.cost → D place ≡ fin k.cost → Dec (v ≡ k.start) → Dec (v < k.start) → Behind
        start e entry (yes f) h = moves e f (follow_first laws T size good (ok.no_goal x.below x.is_start) entry x.route)
        start e entry (no f) (yes h) = inr (by_start e h)
        start e entry (no f) (no h) =
            absurd ((best_is X D (first v c) chosen).lowest k.start (omega arith) (at_start X D x.is_start ∙ entry ∙ ap fin (sym e)))

        cost : Dec (c < k.cost) → Behind
        cost (yes h) = inr (by_cost h)
        cost (no h) =
            let e : c ≡ k.cost = omega (arith, start_least x.below x.is_start (route_rival x.route)) in
            let down = rw (at_start X D x.is_start, e) at ((best_is X D (first v c) chosen).least k.start x.below) in
            let up = table_bounds laws T good (route_rival x.route) in
            start e (within_only (D place) (fin k.cost) up down) (ℕ_discrete v k.start) (dec_lt v k.start)

    -- so it is taken
    pub start_foremost : Foremost S X (join_from X D size v c)
    start_foremost = behind_foremost (join_from X D size v c) start_joins start_first
