-- The join by the leads of a forward search is the one that is taken.
--     led_on                        the lowest start with a lead is a start on a cheapest join
--     leads_best                    it is the best start
--     leads_join, leads_foremost    so the join by leads is the join by a table, the one that is taken
use Prim.Native.Nat.{ℕ, ◌≤◌, ◌<◌}
use native.Mathlib.Omega.{arith}
use mathlib.Core.Path.{◌≡◌, refl, sym, ap, subst}
use mathlib.Core.Bool.{Bool, true, false, true≢false}
use Rattle.paths.specs.Systems.{System}
use Rattle.paths.specs.Tables.{Lawful, Table}
use Rattle.paths.specs.Costs.{Cost, fin}
use Rattle.paths.specs.Starts.{first, best, Starts, start_cost}
use Rattle.paths.specs.Foremost.{GoodStarts, Foremost, join_from}
use Rattle.paths.specs.Forward.{LowerBound, Forward}
use Rattle.paths.specs.Leads.{OnBest, Leading, is_led, led_start, join_leads}
use Rattle.paths.proofs.Lowest.{lowest_passes}
use Rattle.paths.proofs.Joins.{start_foremost}
use Rattle.paths.proofs.BestStart.{some_start, start_best}
use Rattle.paths.proofs.Leads.{led_best, best_led}
use Rattle.paths.proofs.FollowLeads.{leads_follow}

module _ {S : System} {Good : S.Place → Type 0} {code : S.Place → ℕ} {size dearest : ℕ} (laws : Lawful S Good code size dearest)
    {D : S.Place → Cost} (T : Table S Good D) {X : Starts S} (ok : GoodStarts S Good X) {h : S.Place → ℕ} (low : LowerBound S Good h)
    {E : S.Place → Cost} {C : ℕ} (F : Forward S Good X h E (fin C)) {led : S.Place → Bool} (M : Leading S E C Good h led) where
  -- ---- the start

  -- a start whose place has a lead passes the test
  led_is : {v : ℕ} → X.is_start v ≡ true → led (X.place v) ≡ true → is_led X led v ≡ true
  led_is is on = rw is on

  -- a number that passes the test is a start whose place has a lead
  led_start_lem : (v : ℕ) → is_led X led v ≡ true → (X.is_start v ≡ true) × (led (X.place v) ≡ true)
  led_start_lem v pass = by (X.is_start v) refl
    where
      by : (b : Bool) → X.is_start v ≡ b → (X.is_start v ≡ true) × (led (X.place v) ≡ true)
      by true is = (is, rw is at pass)
      by false is = absurd (true≢false (sym (rw is at pass)))

  -- a start on a cheapest join has a lead, so that the lowest start with a lead is no higher, and is a start
  -- with one
  lowest_led_lem : {w : ℕ} → w < X.many → X.is_start w ≡ true → OnBest S E C D (X.place w)
      → (led_start X led ≤ w) × (is_led X led (led_start X led) ≡ true)
  unfolding led_start
  lowest_led_lem {w} below is best =
      lowest_passes (is_led X led) 0 X.many w (omega arith) (omega arith) (led_is is (best_led laws T ok low F M (ok.good below is) best))

  -- the lowest start with a lead is a start on a cheapest join
  pub led_on : (led_start X led < X.many) × (X.is_start (led_start X led) ≡ true) × OnBest S E C D (X.place (led_start X led))
  led_on =
      let (w, known, start, best) = some_start laws T ok low F in
      let (up, pass) = lowest_led_lem known start best in
      let (is, on) = led_start_lem (led_start X led) pass in
      let below : led_start X led < X.many = omega arith in
      (below, is, led_best laws T ok low F M (ok.good below is) (ok.no_goal below is) (F.starts below is) on)

  -- it is the best start
  pub leads_best : best (start_cost X D) X.many ≡ first (led_start X led) C
  leads_best =
      let (below, is, on) = led_on in
      start_best laws T ok low F below is on (λ w less also best. let (up, pass) = lowest_led_lem (omega arith) also best in omega arith)

  -- ---- the join

  -- the join by leads is the join by the table
  pub leads_join : (k : ℕ) → join_leads X E C led k ≡ join_from X D k (led_start X led) C
  leads_join k =
      let (below, is, on) = led_on in
      ap (λ ms. record { cost = C; start = led_start X led; moves = ms }) (leads_follow laws T ok low F M k (ok.good below is) on)

  -- so it is the one that is taken
  pub leads_foremost : Foremost S X (join_leads X E C led size)
  leads_foremost = subst (Foremost S X) (sym (leads_join size)) (start_foremost laws T ok leads_best)
