-- The next place gets a lead, and the leads of all places stay right.
--     led_here, led_same, told_same                it has one now, and the others are as they were
--     lead_before, lowest_stays                    the lowest move that leads on from a place asked before
--                                                  stays the same
--     told_on, made_on, within_on, leads_on        so leads stand where a move leads on, and tell the lowest
--     start_same                                   and starts other than it have leads as they had
use Prim.Native.Nat.{ℕ, suc, ◌+◌, ◌-◌, ◌/◌, ◌%◌, ◌≤◌, ◌<◌}
use mathlib.Core.Path.{◌≡◌, refl, sym, ap, subst, ◌∙◌}
use mathlib.Core.List.{List}
use mathlib.Core.Bool.{Bool, true, false}
use native.Mathlib.Omega.{arith}
use native.Mathlib.Decide.{ℕ_discrete}
use lib.ListN.{get_or}
use lib.Dec.{eqb}
use Rattle.paths.specs.Systems.{Legal}
use Rattle.paths.specs.Costs.{Cost, fin}
use Rattle.paths.specs.Leads.{ends, goes_on, is_lead, lowest_lead, is_led}
use Rattle.paths.proofs.FollowLeads.{same_test}
use Rattle.paths.proofs.Leads.{leads_map, test_leads, leads_test}
use Rattle.rules.specs.Views.{View}
use Rattle.rules.specs.Segments.{Place}
use Rattle.rules.specs.Prices.{Tech}
use Rattle.rules.specs.Joins.{places}
use Rattle.rules.specs.Walks.{start_at}
use Rattle.rules.specs.Places.{place_code, GoodPlace}
use Rattle.heap.specs.Heaps.{slot_of}
use Rattle.search.specs.Fronts.{system_by, starts_by, costs, reached_by, lead_slot, with_lead, led_by, lead_at}
use Rattle.search.specs.Lists.{list_at}
use Rattle.search.specs.Spreads.{keys}
use Rattle.search.specs.Leads.{lowest_by}
use Rattle.search.proofs.Lawful.{lawful_by}
use Rattle.search.proofs.Putting.{lead_other, lead_slot_lem, lead_there}
use Rattle.search.proofs.Costing.{costs_told, nearer_by}
use Rattle.paths.proofs.Lowest.{lowest_same}
use Rattle.search.proofs.Leads.{told_led, cost_told, same_reached, Lead, lead_some}
use Rattle.search.proofs.Retracing.Next.{Next, next_laid, next_now, next_known, next_done, next_cost, next_here, lead_was}

module _ {t : Tech} {view : View} {spots bounds work₀ : List ℕ} {settled best : ℕ} {near work : List ℕ} {before start item : ℕ} {here : Place}
    (n : Next t view spots bounds work₀ settled best near work before start item here) {lead : ℕ} (few : lead < 4)
    (some : (e : ℕ) → costs t bounds work item ≡ suc e → lead ≡ lowest_by t view spots bounds work best here e) where
  open n use {found, so_far, some_left, is_item}

  abbrev On : (work : List ℕ) → Place → (e m : ℕ) → Type 0
  On work p e m = Lead t view spots bounds work₀ work best p e m

  abbrev E : Place → Cost
  E = reached_by t bounds work₀

  abbrev led : List ℕ
  led = with_lead work item lead

  -- this place has a lead now, which tells the move
  slot_here : (q : Place) → place_code t q ≡ item → slot_of (get_or led (place_code t q) 0) ≡ lead_slot lead
  slot_here q e = ap (λ d. slot_of (get_or led d 0)) e ∙ lead_slot_lem work (lead_there (next_now n) (next_known n) (next_done n) lead few) lead few

  lead_told : (q : Place) → place_code t q ≡ item → lead_at t led q ≡ lead
  unfolding lead_at
  lead_told q e = omega (arith, few, slot_here q e)

  pub led_here : (q : Place) → place_code t q ≡ item → led_by t led q ≡ true
  led_here q e = told_led t led q (omega (arith, few, slot_here q e))

  -- the others are as they were
  pub led_same : (q : Place) → (place_code t q ≡ item → ⊥) → led_by t led q ≡ led_by t work q
  unfolding led_by
  led_same q e = ap (λ w. eqb (slot_of w / 4) 262142) (lead_other work lead (place_code t q) e)

  told_same : (q : Place) → (place_code t q ≡ item → ⊥) → lead_at t led q ≡ lead_at t work q
  unfolding lead_at
  told_same q e = ap (λ w. slot_of w % 4) (lead_other work lead (place_code t q) e)

  led_stays : (q : Place) → led_by t work q ≡ true → led_by t led q ≡ true
  led_stays q is = by (ℕ_discrete (place_code t q) item)
    where
      by : Dec (place_code t q ≡ item) → led_by t led q ≡ true
      by (yes e) = led_here q e
      by (no e) = led_same q e ∙ is

  lead_stays : {p : Place} {e m : ℕ} → On work p e m → On led p e m
  lead_stays lead = leads_map lead (λ q c legal g at-q is. led_stays q is)

  -- a move leads on from here
  lead_here : {p : Place} {e : ℕ} → GoodPlace t p → place_code t p ≡ item → E p ≡ fin e → (m : ℕ) × On work p e m
  lead_here {p} {e} good code at-e =
      let same = next_here n good code in
      let (m, lead) = lead_some t view spots bounds work best here e (omega (arith, few, some e (next_cost n (rw same at at-e)))) in
      (m, subst (λ (x : Place). On work x e m) (sym same) (lead_was n lead))

  -- at no more than the best cost
  lead_within : {p : Place} {e m : ℕ} → GoodPlace t p → On work p e m → e ≤ best
  lead_within good (ends legal g sum) = omega arith
  lead_within good (goes_on legal g at-q is) = omega (arith, so_far.within ((lawful_by view spots found.fine).keeps good legal) at-q is)

  -- what was asked before leads to none that costs as little as this one
  lead_before : {i : ℕ} → before - 1 ≤ i → i < settled → {p : Place} {e m : ℕ} → GoodPlace t p → place_code t p ≡ list_at (places t) work₀ i → E p ≡ fin e
      → On led p e m → On work p e m
  lead_before {i} h k {p} {e} good code at-e lead = leads_map lead (λ q c legal g at-q is. sym (led_same q (other q c legal at-q)) ∙ is)
    where
      other : (q : Place) (c : ℕ) {m : ℕ} → Legal (system_by t view spots) p m c q → E q ≡ fin (e + c) → place_code t q ≡ item → ⊥
      other q c legal at-q same =
          let far = ap (keys work₀) (sym (same ∙ sym is_item)) ∙ costs_told t bounds work₀ _ (cost_told t work₀ q bounds at-q) in
          let Near-by = ap (keys work₀) (sym code) ∙ costs_told t bounds work₀ _ (cost_told t work₀ p bounds at-e) in
          omega (arith, (next_laid n).rising (before - 1) i h k, far, Near-by, (lawful_by view spots found.fine).costs good legal, nearer_by view found.fine found.bounding good legal)

  -- so the lowest that leads on from there stays the same
  lowest_stays : {i : ℕ} → before - 1 ≤ i → i < settled → {p : Place} {e : ℕ} → GoodPlace t p → place_code t p ≡ list_at (places t) work₀ i → E p ≡ fin e
      → lowest_lead (system_by t view spots) E best (led_by t work) p e ≡ lowest_lead (system_by t view spots) E best (led_by t led) p e
  unfolding lowest_lead
  lowest_stays h k {p} {e} good code at-e =
      lowest_same (λ m. is_lead (system_by t view spots) E best (led_by t work) e ((system_by t view spots).step p m)) (λ m. is_lead (system_by t view spots) E best (led_by t led) e ((system_by t view spots).step p m)) 4
      (λ m less. same_test _ _ (λ pass. leads_test (lead_stays (test_leads less pass)))
      (λ pass. leads_test (lead_before h k good code at-e (test_leads less pass)))) 0 4 (omega arith)

  pub told_on : (i : ℕ) → before - 1 ≤ i → i < settled → {p : Place} {e : ℕ} → GoodPlace t p → place_code t p ≡ list_at (places t) work₀ i → E p ≡ fin e
      → led_by t led p ≡ true → lead_at t led p ≡ lowest_lead (system_by t view spots) E best (led_by t led) p e
  told_on i h k {p} {e} good code at-e is = by (ℕ_discrete (place_code t p) item) (ℕ_discrete i (before - 1))
    where
      by : Dec (place_code t p ≡ item) → Dec (i ≡ (before - 1)) → lead_at t led p ≡ lowest_lead (system_by t view spots) E best (led_by t led) p e
      by (yes f) last =
          let same = next_here n good f in
          lead_told p f ∙ some e (next_cost n (rw same at at-e)) ∙ ap (λ (x : Place). lowest_by t view spots bounds work best x e) (sym same)
          ∙ ap (λ (D : Place → Cost). lowest_lead (system_by t view spots) D best (led_by t work) p e) (same_reached t bounds work work₀ so_far.same) ∙ lowest_stays h k good code at-e
      by (no f) (yes g) = absurd (f (code ∙ ap (list_at (places t) work₀) g ∙ is_item))
      by (no f) (no g) = told_same p f ∙ so_far.told i (omega arith) k good code at-e (sym (led_same p f) ∙ is) ∙ lowest_stays h k good code at-e

  pub made_on : (i : ℕ) → before - 1 ≤ i → i < settled → {p : Place} {e m : ℕ} → GoodPlace t p → place_code t p ≡ list_at (places t) work₀ i → E p ≡ fin e
      → On led p e m → led_by t led p ≡ true
  made_on i h k {p} {e} {m} good code at-e lead = by (ℕ_discrete i (before - 1))
    where
      by : Dec (i ≡ (before - 1)) → led_by t led p ≡ true
      by (yes f) = led_here p (code ∙ ap (list_at (places t) work₀) f ∙ is_item)
      by (no f) = led_stays p (so_far.made i (omega arith) k good code at-e (lead_before h k good code at-e lead))

  pub within_on : {p : Place} {e : ℕ} → GoodPlace t p → E p ≡ fin e → led_by t led p ≡ true → e ≤ best
  within_on {p} {e} good at-e is = by (ℕ_discrete (place_code t p) item)
    where
      by : Dec (place_code t p ≡ item) → e ≤ best
      by (yes f) = lead_within good (lead_here good f at-e).1
      by (no f) = so_far.within good at-e (sym (led_same p f) ∙ is)

  pub leads_on : {p : Place} {e : ℕ} → GoodPlace t p → E p ≡ fin e → led_by t led p ≡ true → (m : ℕ) × On led p e m
  leads_on {p} {e} good at-e is = by (ℕ_discrete (place_code t p) item)
    where
      by : Dec (place_code t p ≡ item) → (m : ℕ) × On led p e m
      by (yes f) = let (m, lead) = lead_here good f at-e in (m, lead_stays lead)
      by (no f) = let (m, lead) = so_far.leads good at-e (sym (led_same p f) ∙ is) in (m, lead_stays lead)

  -- a start that is not this place has a lead just where it had one
  pub start_same : (v : ℕ) → ((starts_by t view spots).is_start v ≡ true → place_code t (start_at v) ≡ item → ⊥)
      → is_led (starts_by t view spots) (led_by t led) v ≡ is_led (starts_by t view spots) (led_by t work) v
  start_same v other = by ((starts_by t view spots).is_start v) refl
    where
      by : (b : Bool) → (starts_by t view spots).is_start v ≡ b → is_led (starts_by t view spots) (led_by t led) v ≡ is_led (starts_by t view spots) (led_by t work) v
      by true is = rw is (led_same (start_at v) (other is))
      by false is = rw is refl
