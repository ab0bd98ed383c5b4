-- The next place of the list, which is asked for a lead.
--     retracing_fits, _read, _asked      it is read, and what asking it needs
--     Next, next_by                      the place
--     next-..                            it is settled, its cost, and that no other has its number
--     lead_was, lead_is                  what the entries say of a move, in the costs before the first lead
--     retracing_only                     only the moves of its vertex's byte may lead on
--     retracing_none                     none does
use Prim.Native.Nat.{ℕ, suc, ◌+◌, ◌-◌, ◌*◌, ◌^◌, ◌≤◌, ◌<◌}
use mathlib.Core.Path.{◌≡◌, refl, sym, ap, subst, ◌∙◌}
use mathlib.Core.List.{List}
use mathlib.Core.Bool.{Bool, true, false}
use native.Mathlib.Omega.{arith}
use native.Mathlib.Decide.{ℕ_discrete}
use lib.ListN.{length, get_or}
use Rattle.paths.specs.Costs.{Cost, fin}
use Rattle.paths.specs.Leads.{Leads, ends, goes_on, lowest_lead}
use Rattle.paths.proofs.Leads.{test_leads}
use Rattle.rules.specs.Views.{View}
use Rattle.rules.specs.Segments.{Place}
use Rattle.rules.specs.Prices.{Tech}
use Rattle.rules.specs.Joins.{places}
use Rattle.rules.specs.Places.{place_code, GoodPlace, dearest_move}
use Rattle.rules.proofs.Places.{code_below, places_small}
use Rattle.heap.specs.Heaps.{most_items}
use Rattle.search.specs.Fronts.{system_by, costs, reached_by, led_by, lead_at}
use Rattle.search.specs.Lists.{list_at, Done, Laid}
use Rattle.search.specs.Bits.{HasMove}
use Rattle.search.specs.Spreads.{keys}
use Rattle.search.specs.Leads.{lead_by, lowest_by, OnlyMoves}
use Rattle.search.proofs.Lawful.{lawful_by}
use Rattle.search.proofs.Laying.{at_list, laid_room}
use Rattle.search.proofs.Costing.{same-costs}
use Rattle.search.proofs.Leads.{cost_told, same_reached, Lead, lead_none}
use Rattle.search.proofs.Retracing.Places.{Searched, Retracing}

module _ {t : Tech} {view : View} {spots bounds work₀ : List ℕ} {settled best : ℕ} (found : Searched t view spots bounds work₀ settled best) {near work : List ℕ} {before start : ℕ}
    (so_far : Retracing t view spots bounds work₀ settled best near work before start) (some_left : 0 < before) where
  -- the list is in the slice
  pub retracing_fits : (before - 1 < places t) × (places t ≤ 524288) × (places t + places t ≤ length work)
  retracing_fits =
      let laid = found.ended.between.laid in
      (omega (arith, so_far.few, laid_room laid), omega (arith, places_small found.fine), omega (arith, so_far.long, laid.heaped.seated.room))

  -- the place as it is read
  pub retracing_read : {n : ℕ} → n ≡ places t → list_at (places t) work₀ (before - 1) ≡ get_or work (n + n - 1 - (before - 1)) 0
  unfolding list_at
  retracing_read is = rw is (sym (so_far.rest (places t + places t - 1 - (before - 1)) (omega (arith, retracing_fits.0))))

  -- what asking it needs
  pub retracing_asked : {item : ℕ} → list_at (places t) work₀ (before - 1) ≡ item → (item < places t) × (0 < costs t bounds work item) × (keys work item ≤ 2 ^ 41)
      × (costs t bounds work item ≤ suc (dearest_move * most_items))
  retracing_asked {item} is =
      let laid = found.ended.between.laid in
      let below : before - 1 < settled = omega (arith, so_far.few) in
      let known : item < places t = rw (← is) (laid.listed (before - 1) below) in
      let done : Done (places t) work₀ item = rw (← is) (laid.done (before - 1) below) in
      let same = same-costs t bounds work work₀ item (so_far.same item) in (
        known,
        rw same (found.ended.between.told item known done.touched),
        omega (arith, so_far.same item, laid.heaped.seated.small item known),
        omega (arith, same, found.ended.between.spread.small item known, laid_room laid, places_small found.fine),
      )

-- the place with the next number of the list
pub record Next (t : Tech) (view : View) (spots bounds work₀ : List ℕ) (settled best : ℕ) (near work : List ℕ) (before start item : ℕ) (here : Place) : Type 0 where
  pub found : Searched t view spots bounds work₀ settled best
  pub so_far : Retracing t view spots bounds work₀ settled best near work before start
  pub some_left : 0 < before
  pub is_item : list_at (places t) work₀ (before - 1) ≡ item
  pub on : GoodPlace t here
  pub is_here : place_code t here ≡ item

pub next_by : {t : Tech} {view : View} {spots bounds work₀ : List ℕ} {settled best : ℕ} → Searched t view spots bounds work₀ settled best
    → {near work : List ℕ} {before start item : ℕ} {here : Place} → Retracing t view spots bounds work₀ settled best near work before start → 0 < before
    → list_at (places t) work₀ (before - 1) ≡ item → GoodPlace t here → place_code t here ≡ item
    → Next t view spots bounds work₀ settled best near work before start item here
next_by found so_far some_left is_item on is_here =
    record { found = found; so_far = so_far; some_left = some_left; is_item = is_item; on = on; is_here = is_here }

module _ {t : Tech} {view : View} {spots bounds work₀ : List ℕ} {settled best : ℕ} {near work : List ℕ} {before start item : ℕ} {here : Place}
    (n : Next t view spots bounds work₀ settled best near work before start item here) where
  open n use {found, so_far, some_left, is_item, on, is_here}

  pub next_laid : Laid (places t) found.size settled found.ended.between.last work₀
  next_laid = found.ended.between.laid

  pub next_now : Laid (places t) found.size settled found.ended.between.last work
  next_now = so_far.laid found.size found.ended.between.last next_laid

  pub next_more : before - 1 < settled
  next_more = omega (arith, so_far.few, some_left)

  pub next_known : item < places t
  next_known = rw (← is_here) (code_below on)

  next_done₀ : Done (places t) work₀ item
  next_done₀ = rw (← is_item) (next_laid.done (before - 1) next_more)

  pub next_done : Done (places t) work item
  next_done =
      let room = laid_room next_laid in
      let list = at_list (places t) work work₀ (before - 1) (so_far.rest (places t + places t - 1 - (before - 1)) (omega (arith, next_more))) in
      rw (← is_item, ← list) (next_now.done (before - 1) next_more)

  pub next_same : costs t bounds work item ≡ costs t bounds work₀ item
  next_same = same-costs t bounds work work₀ item (so_far.same item)

  -- the cost to the place
  pub next_cost : {e : ℕ} → reached_by t bounds work₀ here ≡ fin e → costs t bounds work item ≡ suc e
  next_cost at-e = next_same ∙ sym (ap (costs t bounds work₀) is_here) ∙ cost_told t work₀ here bounds at-e

  -- a good place with the item's number is this one
  pub next_here : {p : Place} → GoodPlace t p → place_code t p ≡ item → p ≡ here
  next_here good e = (lawful_by view spots found.fine).apart good on (e ∙ sym is_here)

  -- what the entries say of a move, in the costs before the first lead
  pub lead_was : {p : Place} {e m : ℕ} → Lead t view spots bounds work work best p e m → Lead t view spots bounds work₀ work best p e m
  lead_was {p} {e} {m} lead =
      subst (λ (D : Place → Cost). Leads (system_by t view spots) D best (λ q. led_by t work q ≡ true) p e m) (same_reached t bounds work work₀ so_far.same) lead

  lead_is : {p : Place} {e m : ℕ} → Lead t view spots bounds work₀ work best p e m → Lead t view spots bounds work work best p e m
  lead_is {p} {e} {m} lead =
      subst (λ (D : Place → Cost). Leads (system_by t view spots) D best (λ q. led_by t work q ≡ true) p e m) (sym (same_reached t bounds work work₀ so_far.same)) lead

  -- only a move of the vertex's byte leads on
  pub retracing_only : (e : ℕ) → costs t bounds work item ≡ suc e → OnlyMoves t view spots bounds work best here e (get_or near here.vertex 0)
  retracing_only e is m less off = by (lead_by t view spots bounds work best e ((system_by t view spots).step here m)) refl
    where
      has : Lead t view spots bounds work₀ work best here e m → HasMove (get_or near here.vertex 0) m
      has (ends legal g sum) = so_far.goals on (rw is_here next_done₀) legal g
      has (goes_on legal g at-q led) = so_far.lit on legal led

      by : (b : Bool) → lead_by t view spots bounds work best e ((system_by t view spots).step here m) ≡ b → lead_by t view spots bounds work best e ((system_by t view spots).step here m) ≡ false
      by true pass = absurd (off (has (lead_was (test_leads less pass))))
      by false pass = pass

  -- where no move leads on
  module _ (none : (e : ℕ) → costs t bounds work item ≡ suc e → 4 ≤ lowest_by t view spots bounds work best here e) where
    no_lead : {e m : ℕ} → reached_by t bounds work₀ here ≡ fin e → Lead t view spots bounds work₀ work best here e m → ⊥
    no_lead {e} at-e lead = lead_none t view spots bounds work best here e (none e (next_cost at-e)) (lead_is lead)

    pub retracing_none : Retracing t view spots bounds work₀ settled best near work (before - 1) start
    retracing_none =
        record {
          few = omega arith;
          long = so_far.long;
          same = so_far.same;
          rest = so_far.rest;
          laid = so_far.laid;
          within = so_far.within;
          leads = so_far.leads;
          made = λ i h k good code at-e lead. by i h k good code at-e lead (ℕ_discrete i (before - 1));
          told = λ i h k good code at-e is. tells i h k good code at-e is (ℕ_discrete i (before - 1));
          goals = so_far.goals;
          lit = so_far.lit;
          bytes = so_far.bytes;
          top = so_far.top;
          lower = so_far.lower;
          there = so_far.there;
        }
      where
        by : (i : ℕ) → before - 1 ≤ i → i < settled → {p : Place} {e m : ℕ} → GoodPlace t p → place_code t p ≡ list_at (places t) work₀ i → reached_by t bounds work₀ p ≡ fin e
            → Lead t view spots bounds work₀ work best p e m → Dec (i ≡ (before - 1)) → led_by t work p ≡ true
        by i h k {p} {e} {m} good code at-e lead (no f) = so_far.made i (omega arith) k good code at-e lead
        by i h k {p} {e} {m} good code at-e lead (yes f) =
            let same = next_here good (code ∙ ap (list_at (places t) work₀) f ∙ is_item) in
            absurd (no_lead (rw same at at-e) (subst (λ (x : Place). Lead t view spots bounds work₀ work best x e m) same lead))

        tells : (i : ℕ) → before - 1 ≤ i → i < settled → {p : Place} {e : ℕ} → GoodPlace t p → place_code t p ≡ list_at (places t) work₀ i → reached_by t bounds work₀ p ≡ fin e
            → led_by t work p ≡ true → Dec (i ≡ (before - 1)) → lead_at t work p ≡ lowest_lead (system_by t view spots) (reached_by t bounds work₀) best (led_by t work) p e
        tells i h k good code at-e is (no f) = so_far.told i (omega arith) k good code at-e is
        tells i h k {p} {e} good code at-e is (yes f) =
            let same = next_here good (code ∙ ap (list_at (places t) work₀) f ∙ is_item) in
            let (m, lead) = so_far.leads good at-e is in
            absurd (no_lead (rw same at at-e) (subst (λ (x : Place). Lead t view spots bounds work₀ work best x e m) same lead))
