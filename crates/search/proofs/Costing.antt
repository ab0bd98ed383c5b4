-- The cost that an entry tells, and what is left at least.
--     cost_in_lem, in_cost      a key and its cost
--     costs_told, told_costs    the same of the place with a number
--     cost_touched              a place with a cost is touched
--     same-costs                entries with the same keys tell the same costs
--     left_place, told_small    what is left from a place, by its number; it is small
--     nearer_by                 a move brings a place nearer by 15 times its price at most
--     bounds_low                no rival costs less than is left
use Prim.Native.Nat.{ℕ, zero, suc, ◌+◌, ◌-◌, ◌*◌, ◌/◌, ◌^◌, ◌≤◌, ◌<◌}
use mathlib.Core.Path.{◌≡◌, refl, ap}
use mathlib.Core.List.{List}
use mathlib.Core.Bool.{Bool, true, false, cond}
use native.Mathlib.Omega.{arith}
use lib.ListN.{get_or}
use lib.Dec.{eqb}
use borrow.Author.Tests.{eqb-true, eq-eqb}
use Rattle.job.specs.Grid.{Grid}
use Rattle.job.specs.Job.{largest_min_length}
use Rattle.paths.specs.Systems.{Legal}
use Rattle.paths.specs.Rivals.{Rival}
use Rattle.paths.specs.Forward.{LowerBound}
use Rattle.paths.proofs.Cheapest.{one_bounds}
use Rattle.rules.specs.Views.{View}
use Rattle.rules.specs.Segments.{Place}
use Rattle.rules.specs.Prices.{Tech}
use Rattle.rules.specs.Places.{place_code, place_at, GoodPlace, GoodTech}
use Rattle.rules.proofs.Places.{code_below, code_apart}
use Rattle.bounds.specs.Bounds.{bound_at, SmallBounds, Bounding}
use Rattle.bounds.proofs.Coordinates.{small_sum}
use Rattle.search.specs.Fronts.{system_by, left_at, cost_in, costs, at_least}
use Rattle.search.specs.Spreads.{keys}
use Rattle.search.proofs.Numbers.{place_good, code_place}
use Rattle.search.proofs.Lawful.{lawful_by}

-- ---- a key and its cost

pub cost_in_lem : (left key : ℕ) {e : ℕ} → cost_in left key ≡ suc e → key ≡ suc (16 * e + left)
unfolding cost_in
cost_in_lem left zero is = absurd (omega arith)
cost_in_lem left (suc k) {e} is = by (eqb k (16 * ((k - left) / 16) + left)) refl is
  where
    by : (b : Bool) → eqb k (16 * ((k - left) / 16) + left) ≡ b → cond b (suc ((k - left) / 16)) zero ≡ suc e → suc k ≡ suc (16 * e + left)
    by true test is = omega (arith, eqb-true k (16 * ((k - left) / 16) + left) test)
    by false test is = absurd (omega arith)

pub in_cost : (left key : ℕ) {e : ℕ} → key ≡ suc (16 * e + left) → cost_in left key ≡ suc e
unfolding cost_in
in_cost left key {e} is = rw is (by (16 * e + left - left) (omega arith))
  where
    by : (d : ℕ) → d ≡ 16 * e → cond (eqb (16 * e + left) (16 * (d / 16) + left)) (suc (d / 16)) zero ≡ suc e
    by d same =
        let whole : d / 16 ≡ e = omega arith in
        rw (whole, eq-eqb (16 * e + left) (16 * e + left) refl) refl

module _ (t : Tech) (bounds work : List ℕ) (c : ℕ) where
  -- of the place with a number
  pub costs_told : {e : ℕ} → costs t bounds work c ≡ suc e → keys work c ≡ suc (16 * e + left_at t bounds c)
  unfolding costs
  costs_told is = cost_in_lem (left_at t bounds c) (keys work c) is

  pub told_costs : {e : ℕ} → keys work c ≡ suc (16 * e + left_at t bounds c) → costs t bounds work c ≡ suc e
  unfolding costs
  told_costs is = in_cost (left_at t bounds c) (keys work c) is

  -- a place with a cost is touched
  pub cost_touched : 0 < costs t bounds work c → 0 < keys work c
  unfolding costs cost_in
  cost_touched some = by (keys work c) refl
    where
      by : (key : ℕ) → keys work c ≡ key → 0 < keys work c
      by zero is = let none : cost_in (left_at t bounds c) (keys work c) ≡ 0 = ap (cost_in (left_at t bounds c)) is in absurd (omega (arith, some))
      by (suc k) is = omega (arith, is)

-- entries with the same keys tell the same costs
pub same-costs : (t : Tech) (bounds work found : List ℕ) (c : ℕ) → keys work c ≡ keys found c → costs t bounds work c ≡ costs t bounds found c
unfolding costs
same-costs t bounds work found c same = ap (cost_in (left_at t bounds c)) same

-- ---- what is left

module _ {t : Tech} (fine : GoodTech t) (bounds : List ℕ) {p : Place} (good : GoodPlace t p) where
  -- a good place is that of its number
  place_code_lem : place_at (largest_min_length t.lines) (place_code t p) ≡ p
  place_code_lem = let below = code_below good in code_apart fine (place_good fine below) good (code_place fine below)

  pub left_place : left_at t bounds (place_code t p) ≡ bound_at t.grid bounds p.vertex
  unfolding left_at
  left_place = ap (λ (q : Place). bound_at t.grid bounds q.vertex) place_code_lem

-- what is left is small
pub told_small : (g : Grid) (bounds : List ℕ) (v : ℕ) {left : ℕ} → SmallBounds bounds → left ≡ bound_at g bounds v → left ≤ 2 ^ 24
told_small g bounds v small is = omega (arith, is, small_sum g bounds small v)

module _ {t : Tech} (view : View) {spots bounds : List ℕ} (fine : GoodTech t) (bounding : Bounding t spots bounds) where
  -- a move brings a place nearer by 15 times its price at most
  pub nearer_by : {p q : Place} {m c : ℕ} → GoodPlace t p → Legal (system_by t view spots) p m c q
      → left_at t bounds (place_code t p) ≤ 15 * c + left_at t bounds (place_code t q)
  nearer_by {p} {q} {m} good legal =
      rw (left_place fine bounds good, left_place fine bounds ((lawful_by view spots fine).keeps good legal)) (bounding.nearer view m good legal.leads)

  -- at an unjoined pin nothing is left
  nothing_left : {q : Place} → GoodPlace t q → eqb (get_or spots q.vertex 0) 2 ≡ true → bound_at t.grid bounds q.vertex ≡ 0
  nothing_left {q} good goal = bounding.none q.vertex good.vertex (eqb-true (get_or spots q.vertex 0) 2 goal)

  -- 15 times a rival's cost
  rival_left : {p : Place} {ms : List ℕ} {c : ℕ} → GoodPlace t p → Rival (system_by t view spots) p ms c → bound_at t.grid bounds p.vertex ≤ 15 * c
  rival_left {p} good (Rival.enters {m = m} legal goal) =
      omega (arith, bounding.nearer view m good legal.leads, nothing_left ((lawful_by view spots fine).keeps good legal) goal)
  rival_left {p} good (Rival.walks {m = m} legal r) =
      omega (arith, bounding.nearer view m good legal.leads, rival_left ((lawful_by view spots fine).keeps good legal) r)

  -- no rival costs less than is left
  pub bounds_low : LowerBound (system_by t view spots) (GoodPlace t) (at_least t bounds)
  unfolding at_least
  bounds_low = record { bounds = λ good g r. omega (arith, rival_left good r, (one_bounds (lawful_by view spots fine)).bounds good g r) }
