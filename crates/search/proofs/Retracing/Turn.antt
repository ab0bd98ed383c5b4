-- One place was asked: the moves that enter it have their bits, and the lowest start is known.
--     from_good, from_start      the end of a walk is a good place, and a start where the walk costs nothing
--     retracing_with             it has a lead, with the lowest start that has one
--     retracing_inner, _start    it costs something and is no start, or nothing and is one
--     retracing_on               it was asked
use Prim.Native.Nat.{ℕ, suc, ◌-◌, ◌≤◌, ◌<◌, min}
use mathlib.Core.Path.{◌≡◌, refl, sym, ap, ◌∙◌}
use mathlib.Core.List.{List}
use mathlib.Core.Bool.{Bool, true, false, true≢false}
use native.Mathlib.Omega.{arith}
use native.Mathlib.Decide.{ℕ_discrete, dec_lt}
use lib.ListN.{length, get_or, length-set}
use borrow.Author.Tests.{eqb-true}
use Rattle.job.specs.Grid.{vertices}
use Rattle.paths.specs.Systems.{Legal}
use Rattle.paths.specs.Forward.{From, starts, goes}
use Rattle.paths.specs.Leads.{is_led}
use Rattle.rules.specs.Tracks.{at, entered}
use Rattle.rules.specs.Views.{View}
use Rattle.rules.specs.Segments.{Place}
use Rattle.rules.specs.Prices.{Tech}
use Rattle.rules.specs.Walks.{start_at}
use Rattle.rules.specs.Places.{place_code, GoodPlace, GoodTech}
use Rattle.rules.proofs.Places.{start_good}
use Rattle.search.specs.Fronts.{system_by, starts_by, costs, led_by, with_lead}
use Rattle.search.specs.Bits.{HasMove}
use Rattle.search.specs.Leads.{lowest_by, Answered}
use Rattle.search.proofs.Lawful.{lawful_by, legal_enters, starts_good}
use Rattle.search.proofs.Putting.{lead_other, lead_keys, lead_there, laid_lead}
use Rattle.search.proofs.Answering.{led_cost}
use Rattle.search.proofs.Retracing.Places.{Retracing}
use Rattle.search.proofs.Retracing.Next.{Next, next_now, next_more, next_known, next_done, next_same, next_here, retracing_none}
use Rattle.search.proofs.Retracing.Led.{led_here, led_same, told_on, made_on, within_on, leads_on, start_same}

module _ {t : Tech} (view : View) (spots : List ℕ) (fine : GoodTech t) where
  -- the end of a walk is a good place
  from_good : {p : Place} {e : ℕ} → From (system_by t view spots) (starts_by t view spots) p e → GoodPlace t p
  from_good (starts below is) = (starts_good t view spots).good below is
  from_good (goes from g legal) = (lawful_by view spots fine).keeps (from_good from) legal

  -- and a start where the walk costs nothing
  from_start : {p : Place} {e : ℕ} → From (system_by t view spots) (starts_by t view spots) p e → e ≡ 0 → (v : ℕ) × (v < vertices t.grid) × ((starts_by t view spots).is_start v ≡ true) × (p ≡ start_at v)
  from_start (starts {v = v} below is) none = (v, below, is, refl)
  from_start (goes from g legal) none = absurd (omega (arith, (lawful_by view spots fine).costs (from_good from) legal))

module _ {t : Tech} {view : View} {spots bounds work₀ : List ℕ} {settled best : ℕ} {near work : List ℕ} {before start item : ℕ} {here : Place}
    (n : Next t view spots bounds work₀ settled best near work before start item here) where
  open n use {found, so_far, some_left, on, is_here}

  -- with one place less
  abbrev Asked_on : (lights after : List ℕ) (first : ℕ) → Type 0
  Asked_on lights after first = Retracing t view spots bounds work₀ settled best lights after (before - 1) first

  module _ {lead : ℕ} (few : lead < 4) (some : (e : ℕ) → costs t bounds work item ≡ suc e → lead ≡ lowest_by t view spots bounds work best here e) where
    abbrev led : List ℕ
    led = with_lead work item lead

    module _ (lights : List ℕ) (shines : (u m : ℕ) → u < vertices t.grid → entered t.grid u m ≡ at here.vertex → HasMove (get_or lights u 0) m)
        (stays : (u m : ℕ) → HasMove (get_or near u 0) m → HasMove (get_or lights u 0) m) (bytes : length lights ≡ 16384) where
      lit_on : {p q : Place} {m c : ℕ} → GoodPlace t p → Legal (system_by t view spots) p m c q → led_by t led q ≡ true → HasMove (get_or lights p.vertex 0) m
      lit_on {p} {q} {m} good legal is = by (ℕ_discrete (place_code t q) item)
        where
          by : Dec (place_code t q ≡ item) → HasMove (get_or lights p.vertex 0) m
          by (yes f) =
              let same = next_here n ((lawful_by view spots found.fine).keeps good legal) f in
              shines p.vertex m good.vertex (legal_enters view found.fine m good legal.leads ∙ ap (λ (x : Place). at x.vertex) same)
          by (no f) = stays p.vertex m (so_far.lit good legal (sym (led_same n few some q f) ∙ is))

      -- with the lowest start that has a lead
      retracing_with : {first : ℕ} → first ≤ vertices t.grid → ((v : ℕ) → v < first → is_led (starts_by t view spots) (led_by t led) v ≡ false)
          → (first < vertices t.grid → is_led (starts_by t view spots) (led_by t led) first ≡ true) → Asked_on lights led first
      retracing_with top lower there =
          record {
            few = omega (arith, next_more n);
            long = length-set work item _ ∙ so_far.long;
            same = λ d. lead_keys work (lead_there (next_now n) (next_known n) (next_done n) lead few) lead few d ∙ so_far.same d;
            rest = λ j h. lead_other work lead j (λ e. omega (arith, next_known n)) ∙ so_far.rest j h;
            laid = λ size last l. laid_lead (so_far.laid size last l) (next_known n) (next_done n) lead few;
            within = within_on n few some;
            leads = leads_on n few some;
            made = λ i h k good code at-e lead. made_on n few some i h k good code at-e lead;
            told = told_on n few some;
            goals = λ {p} {q} {m} good d legal g. stays p.vertex m (so_far.goals good d legal g);
            lit = lit_on;
            bytes = bytes;
            top = top;
            lower = lower;
            there = there;
          }

      -- a place that costs something is no start
      retracing_inner : (costs t bounds work item ≡ 1 → ⊥) → Asked_on lights led start
      retracing_inner dear =
          retracing_with so_far.top (λ v h. start_same n few some v (other v (omega (arith, so_far.top))) ∙ so_far.lower v h)
          (λ h. start_same n few some start (other start h) ∙ so_far.there h)
        where
          other : (v : ℕ) → v < vertices t.grid → (starts_by t view spots).is_start v ≡ true → place_code t (start_at v) ≡ item → ⊥
          other v h is code =
              dear (next_same n ∙ sym (ap (costs t bounds work₀) code) ∙ found.ended.between.spread.starts v h (eqb-true (get_or spots v 0) 1 is))

      -- one that costs nothing is
      retracing_start : costs t bounds work item ≡ 1 → {first : ℕ} → first ≡ min start here.vertex → Asked_on lights led first
      unfolding start_at
      retracing_start none {first} lesser = by (found.ended.between.spread.reached on (ap (costs t bounds work₀) is_here ∙ sym (next_same n) ∙ none))
        where
          at_start : (w : ℕ) → w < vertices t.grid → (starts_by t view spots).is_start w ≡ true → here ≡ start_at w → Asked_on lights led first
          at_start w below is start_is =
              retracing_with (omega (arith, so_far.top)) (λ v h. start_same n few some v (other v (omega (arith, so_far.top)) (omega (arith, vertex))) ∙ so_far.lower v (omega arith))
              (λ h. which (dec_lt w start) h)
            where
              vertex : here.vertex ≡ w
              vertex = ap (λ (x : Place). x.vertex) start_is

              other : (v : ℕ) → v < vertices t.grid → (v ≡ w → ⊥) → (starts_by t view spots).is_start v ≡ true → place_code t (start_at v) ≡ item → ⊥
              other v h apart also code = apart (ap (λ (x : Place). x.vertex) (next_here n (start_good h) code) ∙ vertex)

              has : is_led (starts_by t view spots) (led_by t led) w ≡ true
              has = rw is (led_here n few some (start_at w) (ap (place_code t) (sym start_is) ∙ is_here))

              which : Dec (w < start) → first < vertices t.grid → is_led (starts_by t view spots) (led_by t led) first ≡ true
              which (yes l) h = let one : first ≡ w = omega (arith, vertex) in rw one has
              which (no l) h = let one : first ≡ start = omega (arith, vertex) in rw one (keeps (ℕ_discrete w start))
                where
                  keeps : Dec (w ≡ start) → is_led (starts_by t view spots) (led_by t led) start ≡ true
                  keeps (yes e) = rw (← e) has
                  keeps (no e) = let inside : start < vertices t.grid = omega (arith, vertex) in start_same n few some start (other start inside (λ f. e (sym f))) ∙ so_far.there inside

          by : From (system_by t view spots) (starts_by t view spots) here 0 → Asked_on lights led first
          by from = let (w, below, is, start_is) = from_start view spots found.fine from refl in at_start w below is start_is

  -- ---- the place was asked

  module _ {lights after : List ℕ} {first : ℕ} (did : Answered t view spots bounds best item here near work lights after start first) where
    pub retracing_on : Asked_on lights after first
    retracing_on = by did.led refl
      where
        by : (b : Bool) → did.led ≡ b → Asked_on lights after first
        by false not =
            let (same-near, same-work) = did.asked.left not in
            rw (same-near, same-work, did.same (λ is. absurd (true≢false (sym is ∙ not)))) (retracing_none n (did.asked.none not))
        by true is = one (ℕ_discrete (costs t bounds work item) 1)
          where
            put : after ≡ with_lead work item did.asked.lead
            put = did.asked.put is

            cost : costs t bounds after item ≡ costs t bounds work item
            cost = led_cost t bounds work after (omega (arith, next_known n, (next_now n).heaped.seated.room)) (did.asked.known is) put

            one : Dec (costs t bounds work item ≡ 1) → Asked_on lights after first
            one (yes e) =
                rw put
                (retracing_start (did.asked.known is) (did.asked.leads is) lights (did.asked.lit is) did.asked.stays did.asked.bytes e (did.lower is (cost ∙ e)))
            one (no e) =
                rw (put, did.same (λ a f. e (sym cost ∙ f)))
                (retracing_inner (did.asked.known is) (did.asked.leads is) lights (did.asked.lit is) did.asked.stays did.asked.bytes e)
