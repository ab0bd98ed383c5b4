-- Leads stand just on the places of cheapest joins.
--     led_best, best_led        a place that the search came to has a lead just where it is on a cheapest
--                               join
--     leads_map                 a move that leads on to one kind of place, where these are another kind too
--     leads_known               it is one of the moves
--     leads_test, test_leads    the test of a move says just that it leads to a goal at C or on to a lead
use Prim.Native.Nat.{ℕ, zero, suc, ◌+◌, ◌<◌}
use native.Mathlib.Omega.{arith}
use mathlib.Core.Path.{◌≡◌, refl, sym}
use mathlib.Core.Bool.{Bool, true, false, true≢false}
use borrow.Author.Tests.{eqb-true, eq-eqb}
use Rattle.paths.specs.Systems.{Step, blocked, to, System, Legal}
use Rattle.paths.specs.Tables.{Lawful, Table}
use Rattle.paths.specs.Costs.{Cost, fin}
use Rattle.paths.specs.Starts.{Starts}
use Rattle.paths.specs.Foremost.{GoodStarts}
use Rattle.paths.specs.Forward.{LowerBound, Forward}
use Rattle.paths.specs.Leads.{OnBest, on_best, Leads, ends, goes_on, Leading, is_lead}
use Rattle.paths.proofs.Following.{is_cost_lem, cost_is}
use Rattle.paths.proofs.OnBest.{near_best, on_leads, leads_on}

-- a move that leads on to one kind of place leads on to another, where the places at their exact distances
-- are
pub leads_map : {S : System} {E : S.Place → Cost} {C : ℕ} {On Also : S.Place → Type 0} {p : S.Place} {e m : ℕ} → Leads S E C On p e m
    → ((q : S.Place) (c : ℕ) → Legal S p m c q → S.goal q ≡ false → E q ≡ fin (e + c) → On q → Also q) → Leads S E C Also p e m
leads_map (ends legal goal sum) also = ends legal goal sum
leads_map (goes_on {q = q} {c = c} legal g at on) also = goes_on legal g at (also q c legal g at on)

-- it is one of the moves
pub leads_known : {S : System} {E : S.Place → Cost} {C : ℕ} {On : S.Place → Type 0} {p : S.Place} {e m : ℕ} → Leads S E C On p e m → m < S.moves
leads_known (ends legal goal sum) = legal.known
leads_known (goes_on legal g at on) = legal.known

-- ---- leads and cheapest joins

module _ {S : System} {Good : S.Place → Type 0} {code : S.Place → ℕ} {size dearest : ℕ} (laws : Lawful S Good code size dearest)
    {D : S.Place → Cost} (T : Table S Good D) {X : Starts S} (ok : GoodStarts S Good X) {h : S.Place → ℕ} (low : LowerBound S Good h)
    {E : S.Place → Cost} {C : ℕ} (F : Forward S Good X h E (fin C)) {led : S.Place → Bool} (M : Leading S E C Good h led) where
  -- by what is left to C, since every price is at least 1
  led_by_lem : (k : ℕ) {p : S.Place} {e : ℕ} → C < e + k → Good p → S.goal p ≡ false → E p ≡ fin e → led p ≡ true → OnBest S E C D p
  led_by_lem zero left good g at is = absurd (omega (arith, M.near good g at is))
  led_by_lem (suc k) left good g at is =
      let (m, lead) = M.leads good g at is in
      let on = leads_map lead (λ q c legal no_goal_lem there also.
      led_by_lem k (omega (arith, laws.costs good legal)) (laws.keeps good legal) no_goal_lem there also) in
      leads_on laws T ok low F good g at on

  best_by_lem : (k : ℕ) {p : S.Place} {e : ℕ} → C < e + k → Good p → S.goal p ≡ false → E p ≡ fin e → OnBest S E C D p → led p ≡ true
  best_by_lem zero left good g at on = absurd (omega (arith, near_best laws T ok low F good at on))
  best_by_lem (suc k) left good g at on =
      let (m, lead) = on_leads laws T ok low F good at on in
      let led = leads_map lead (λ q c legal no_goal_lem there also.
      best_by_lem k (omega (arith, laws.costs good legal)) (laws.keeps good legal) no_goal_lem there also) in
      M.made good g at (near_best laws T ok low F good at on) led

  -- a place with a lead is on a cheapest join
  pub led_best : {p : S.Place} {e : ℕ} → Good p → S.goal p ≡ false → E p ≡ fin e → led p ≡ true → OnBest S E C D p
  led_best good g at is = led_by_lem (suc C) (omega arith) good g at is

  -- a place on a cheapest join has a lead
  pub best_led : {p : S.Place} → Good p → OnBest S E C D p → led p ≡ true
  best_led good (on_best g at left sum) = best_by_lem (suc C) (omega arith) good g at (on_best g at left sum)

-- ---- the test of a move

module _ {S : System} {E : S.Place → Cost} {C : ℕ} {led : S.Place → Bool} where
  -- a move that passes the test leads to a goal at C or on to a lead
  pub test_leads : {p : S.Place} {e m : ℕ} → m < S.moves → is_lead S E C led e (S.step p m) ≡ true → Leads S E C (λ q. led q ≡ true) p e m
  unfolding is_lead
  test_leads {p} {e} {m} known pass = by (S.step p m) refl
    where
      at : (c : ℕ) (q : S.Place) → S.step p m ≡ to c q → (b : Bool) → S.goal q ≡ b → (d : Bool) → led q ≡ d
          → Leads S E C (λ q. led q ≡ true) p e m
      at c q leads true g d is = ends (record { known = known; leads = leads }) g (eqb-true (e + c) C (rw (leads, g) at pass))
      at c q leads false g true is = goes_on (record { known = known; leads = leads }) g (is_cost_lem (e + c) (E q) (rw (leads, g, is) at pass)) is
      at c q leads false g false is = absurd (true≢false (sym (rw (leads, g, is) at pass)))

      by : (x : Step S.Place) → S.step p m ≡ x → Leads S E C (λ q. led q ≡ true) p e m
      by blocked leads = absurd (true≢false (sym (rw leads at pass)))
      by (to c q) leads = at c q leads (S.goal q) refl (led q) refl

  -- a move that leads to a goal at C or on to a lead passes the test
  pub leads_test : {p : S.Place} {e m : ℕ} → Leads S E C (λ q. led q ≡ true) p e m → is_lead S E C led e (S.step p m) ≡ true
  unfolding is_lead
  leads_test {e = e} (ends {c = c} legal g sum) = rw (legal.leads, g) (eq-eqb (e + c) C sum)
  leads_test {e = e} (goes_on {q = q} {c = c} legal g at is) = rw (legal.leads, g, is) (cost_is (e + c) (E q) at)
