-- Following the leads of a forward search is following a table of the costs to go.
--     same_test                             two tests that pass together are one
--     leads_none, leads_goal, leads_step    nothing is followed with no move left and at a goal; else the
--                                           lowest move that leads on, then the rest
--     lead_keeps, lowest_lead_lem           on a cheapest join a move leads on just where it keeps the
--                                           table's cost; so the lowest of each is one
--     leads_follow                          so the leads are followed as the table is
use Prim.Native.Nat.{ℕ, zero, suc, ◌+◌, ◌<◌}
use native.Mathlib.Omega.{arith}
use mathlib.Core.Path.{◌≡◌, refl, sym, ap, ◌∙◌}
use mathlib.Core.List.{[], ◌∷◌}
use mathlib.Core.Bool.{Bool, true, false}
use Rattle.paths.specs.Systems.{to, System, Legal}
use Rattle.paths.specs.Tables.{Lawful, Table}
use Rattle.paths.specs.Distances.{keeps, lowest_keeping, follow, onward}
use Rattle.paths.specs.Costs.{Cost, fin}
use Rattle.paths.specs.Starts.{Starts}
use Rattle.paths.specs.Foremost.{GoodStarts}
use Rattle.paths.specs.Forward.{LowerBound, Forward}
use Rattle.paths.specs.Leads.{OnBest, on_best, Leads, ends, goes_on, Leading, is_lead, lowest_lead, lead_on, follow_leads}
use Rattle.paths.proofs.Lowest.{lowest_same}
use Rattle.paths.proofs.Following.{follow_none, follow_goal, follow_step, Kept, kept, cost_keeps}
use Rattle.paths.proofs.OnBest.{same_fin, keeps_leads, leads_keeps}
use Rattle.paths.proofs.Leads.{leads_map, led_best, best_led, test_leads, leads_test}

-- two tests that pass together are one
pub same_test : (a b : Bool) → (a ≡ true → b ≡ true) → (b ≡ true → a ≡ true) → a ≡ b
same_test true b there back = sym (there refl)
same_test false true there back = back refl
same_test false false there back = refl

-- ---- following leads, move by move

module _ (S : System) (E : S.Place → Cost) (C : ℕ) (led : S.Place → Bool) where
  -- nothing is followed with no move left
  pub leads_none : (p : S.Place) → follow_leads S E C led 0 p ≡ []
  unfolding follow_leads
  leads_none p = refl

  -- nothing is followed from a goal
  pub leads_goal : (k : ℕ) {p : S.Place} → S.goal p ≡ true → follow_leads S E C led k p ≡ []
  unfolding follow_leads
  leads_goal zero g = refl
  leads_goal (suc k) g = rw (g, follow_leads)

  -- the lowest move that leads on, then the rest
  pub leads_step : (k : ℕ) {p q : S.Place} {e c : ℕ} → S.goal p ≡ false → E p ≡ fin e → S.step p (lowest_lead S E C led p e) ≡ to c q
      → follow_leads S E C led (suc k) p ≡ lowest_lead S E C led p e ∷ follow_leads S E C led k q
  unfolding follow_leads lead_on onward
  leads_step k g at leads = rw (g, follow_leads, at, leads)

module _ {S : System} {Good : S.Place → Type 0} {code : S.Place → ℕ} {size dearest : ℕ} (laws : Lawful S Good code size dearest)
    {D : S.Place → Cost} (T : Table S Good D) {X : Starts S} (ok : GoodStarts S Good X) {h : S.Place → ℕ} (low : LowerBound S Good h)
    {E : S.Place → Cost} {C : ℕ} (F : Forward S Good X h E (fin C)) {led : S.Place → Bool} (M : Leading S E C Good h led) where
  -- ---- one move

  -- on a cheapest join a move leads on just where it keeps the table's cost
  pub lead_keeps : {p : S.Place} {e d : ℕ} (m : ℕ) → Good p → S.goal p ≡ false → E p ≡ fin e → D p ≡ fin d → e + d ≡ C → m < S.moves
      → is_lead S E C led e (S.step p m) ≡ keeps S D p d m
  lead_keeps {p} {e} {d} m good g at left sum known = same_test (is_lead S E C led e (S.step p m)) (keeps S D p d m) there back
    where
      there : is_lead S E C led e (S.step p m) ≡ true → keeps S D p d m ≡ true
      there pass =
          let on = leads_map (test_leads known pass) (λ q c legal no_goal_lem is. led_best laws T ok low F M (laws.keeps good legal) no_goal_lem is) in
          let (n, same, cost, keep) = leads_keeps laws T ok low F good g at on in
          rw (same_fin left same) keep

      back : keeps S D p d m ≡ true → is_lead S E C led e (S.step p m) ≡ true
      back keep =
          let on = keeps_leads laws T ok low F good g at left sum known keep in
          leads_test (leads_map on (λ q c legal no_goal_lem is. best_led laws T ok low F M (laws.keeps good legal)))

  -- so the lowest that leads on is the lowest that keeps the cost
  pub lowest_lead_lem : {p : S.Place} {e d : ℕ} → Good p → S.goal p ≡ false → E p ≡ fin e → D p ≡ fin d → e + d ≡ C
      → lowest_lead S E C led p e ≡ lowest_keeping S D p d
  unfolding lowest_lead lowest_keeping
  lowest_lead_lem {p} {e} {d} good g at left sum =
      lowest_same (λ m. is_lead S E C led e (S.step p m)) (keeps S D p d) S.moves (λ m known. lead_keeps m good g at left sum known) 0 S.moves
      (omega arith)

  -- ---- the route

  -- what the lowest move that keeps the cost leads to is a goal or on a cheapest join, so that the rest is
  -- followed alike
  rest_alike : {p : S.Place} {e d : ℕ} (k : ℕ) → Good p → S.goal p ≡ false → E p ≡ fin e → D p ≡ fin d → e + d ≡ C
      → (on : Kept S Good D p d) → ((q : S.Place) → Good q → OnBest S E C D q → follow_leads S E C led k q ≡ follow S D k q)
      → follow_leads S E C led k on.next ≡ follow S D k on.next
  rest_alike {p} {e} {d} k good g at left sum on again = by (keeps_leads laws T ok low F good g at left sum on.legal.known keep)
    where
      keep : keeps S D p d (lowest_keeping S D p d) ≡ true
      keep = cost_keeps S D p d _ (rw (on.legal.leads, on.entry) (ap fin on.sum))

      next : {c : ℕ} {q : S.Place} → Legal S p (lowest_keeping S D p d) c q → q ≡ on.next
      next legal = let now = on.legal.leads in let leads = legal.leads in cc

      by : Leads S E C (OnBest S E C D) p e (lowest_keeping S D p d) → follow_leads S E C led k on.next ≡ follow S D k on.next
      by (ends legal goal total) = rw (← (next legal)) (leads_goal S E C led k goal ∙ sym (follow_goal S D k goal))
      by (goes_on {q = q} legal no_goal_lem there best) = rw (← (next legal)) (again q (laws.keeps good legal) best)

  -- from a place on a cheapest join the leads are followed as the table is
  pub leads_follow : {p : S.Place} (k : ℕ) → Good p → OnBest S E C D p → follow_leads S E C led k p ≡ follow S D k p
  leads_follow {p} zero good best = leads_none S E C led p ∙ sym (follow_none S D p)
  leads_follow {p} (suc k) good (on_best {e = e} {d = d} g at left sum) =
      let on = kept laws T good g left in
      let same = lowest_lead_lem good g at left sum in
      let leads : S.step p (lowest_lead S E C led p e) ≡ to on.price on.next = rw same on.legal.leads in
      let rest = rest_alike k good g at left sum on (λ q fine best. leads_follow {p = q} k fine best) in
      rw (leads_step S E C led k g at leads, follow_step S D k g left on.legal.leads, same, rest)
