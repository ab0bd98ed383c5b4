-- All settled places were asked.
--     settled_in                                    a place within the best cost that the search came to is
--                                                   settled
--     retracing_charted, retracing_lowest, _kept    what retracing leaves
use Prim.Native.Nat.{ℕ, ◌+◌, ◌≤◌, ◌<◌}
use mathlib.Core.Path.{◌≡◌, refl, sym, ap, subst, ◌∙◌}
use mathlib.Core.Logic.{◌⊎◌, inl, inr}
use mathlib.Core.List.{List}
use mathlib.Core.Bool.{true}
use native.Mathlib.Omega.{arith}
use native.Mathlib.Decide.{dec_lt}
use borrow.Author.Tests.{lt-ltb}
use Rattle.job.specs.Grid.{vertices}
use Rattle.paths.specs.Distances.{lowest_from}
use Rattle.paths.specs.Costs.{Cost, fin}
use Rattle.paths.specs.Forward.{Forward}
use Rattle.paths.specs.Leads.{Leading, lowest_lead, is_led, led_start}
use Rattle.rules.specs.Views.{View}
use Rattle.rules.specs.Segments.{Place}
use Rattle.rules.specs.Prices.{Tech}
use Rattle.rules.specs.Joins.{places}
use Rattle.rules.specs.Places.{place_code, GoodPlace}
use Rattle.rules.proofs.Places.{code_below}
use Rattle.metal.specs.Codes.{Beyond}
use Rattle.metal.proofs.Slices.{beyond_by}
use Rattle.search.specs.Fronts.{system_by, starts_by, reached_by, at_least, led_by, lead_at, best_by}
use Rattle.search.specs.Lists.{Done}
use Rattle.search.specs.Charts.{Charted, lowest_led}
use Rattle.search.proofs.Costing.{bounds_low}
use Rattle.search.proofs.Settling.{ended_rest, ended_forward}
use Rattle.paths.proofs.Lowest.{lowest_is, lowest_none}
use Rattle.search.proofs.Leads.{cost_told, same_reached}
use Rattle.search.proofs.Retracing.Places.{Searched, Retracing}

module _ {t : Tech} {view : View} {spots bounds work₀ : List ℕ} {settled best : ℕ} (found : Searched t view spots bounds work₀ settled best) {near work : List ℕ} {left start : ℕ}
    (so_far : Retracing t view spots bounds work₀ settled best near work left start) (none : left ≤ 0) where
  -- a place within the best cost that the search came to is settled
  settled_in : {p : Place} {e : ℕ} → GoodPlace t p → reached_by t bounds work₀ p ≡ fin e → e + at_least t bounds p ≤ best → Done (places t) work₀ (place_code t p)
  settled_in {p} {e} good at-e Near-by = by (ended_rest view found.fine found.bounding found.ended p e good (cost_told t work₀ p bounds at-e))
    where
      by : Done (places t) work₀ (place_code t p) ⊎ (best < e + at_least t bounds p) → Done (places t) work₀ (place_code t p)
      by (inl done) = done
      by (inr far) = absurd (omega arith)

  leading₀ : Leading (system_by t view spots) (reached_by t bounds work₀) best (GoodPlace t) (at_least t bounds) (led_by t work)
  leading₀ =
      record {
        near = λ good g at-e is. so_far.within good at-e is;
        leads = λ good g at-e is. so_far.leads good at-e is;
        made = λ {p} good g at-e Near-by lead.
            let (i, below, is) = found.ended.between.laid.all (place_code t p) (code_below good) (settled_in good at-e Near-by) in
            so_far.made i (omega arith) below good (sym is) at-e lead;
      }

  -- a lead within the best cost tells the lowest move
  told₀ : {p : Place} {e : ℕ} → GoodPlace t p → reached_by t bounds work₀ p ≡ fin e → e + at_least t bounds p ≤ best → led_by t work p ≡ true
      → lead_at t work p ≡ lowest_lead (system_by t view spots) (reached_by t bounds work₀) best (led_by t work) p e
  told₀ {p} good at-e Near-by is =
      let (i, below, at_i) = found.ended.between.laid.all (place_code t p) (code_below good) (settled_in good at-e Near-by) in
      so_far.told i (omega arith) below good (sym at_i) at-e is

  forward₀ : best < 1099511627775 → Forward (system_by t view spots) (GoodPlace t) (starts_by t view spots) (at_least t bounds) (reached_by t bounds work₀) (fin best)
  unfolding best_by
  forward₀ some =
      let is-best : best_by best ≡ fin best = rw (lt-ltb best 1099511627775 some) refl in
      subst (λ (C : Cost). Forward (system_by t view spots) (GoodPlace t) (starts_by t view spots) (at_least t bounds) (reached_by t bounds work₀) C) is-best (ended_forward view found.fine found.bounding found.ended)

  pub retracing_charted : best < 1099511627775 → Charted t view spots bounds work best
  retracing_charted some =
      let seated = (so_far.laid found.size found.ended.between.last found.ended.between.laid).heaped.seated in
      let back = sym (same_reached t bounds work work₀ so_far.same) in
      record {
        room = omega (arith, seated.room);
        small = λ c h. seated.small c h;
        low = bounds_low view found.fine found.bounding;
        forward = subst (λ (D : Place → Cost). Forward (system_by t view spots) (GoodPlace t) (starts_by t view spots) (at_least t bounds) D (fin best)) back (forward₀ some);
        leading = subst (λ (D : Place → Cost). Leading (system_by t view spots) D best (GoodPlace t) (at_least t bounds) (led_by t work)) back leading₀;
        told = λ {p} {e} good at-e Near-by is.
            told₀ good (ap (λ (D : Place → Cost). D p) back ∙ at-e) Near-by is ∙ ap (λ (D : Place → Cost). lowest_lead (system_by t view spots) D best (led_by t work) p e) back;
      }

  pub retracing_lowest : start ≡ lowest_led t view spots work
  unfolding led_start
  retracing_lowest = sym (by (dec_lt start (vertices t.grid)))
    where
      by : Dec (start < vertices t.grid) → lowest_from (is_led (starts_by t view spots) (led_by t work)) 0 (vertices t.grid) ≡ start
      by (yes h) = lowest_is (is_led (starts_by t view spots) (led_by t work)) (vertices t.grid) start h (so_far.there h) so_far.lower
      by (no h) =
          lowest_none (is_led (starts_by t view spots) (led_by t work)) 0 (vertices t.grid) (λ v below. so_far.lower v (omega arith)) ∙ omega (arith, so_far.top)

  pub retracing_kept : Beyond (places t + places t) work work₀
  retracing_kept = beyond_by so_far.long (λ j h. so_far.rest j (omega arith))
