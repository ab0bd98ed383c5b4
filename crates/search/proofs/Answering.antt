-- One settled place is asked for a lead, in the code's words.
--     item_place, _key, _distance, _lowest     the place of a number, and its lowest move that leads on
--     led_cost                                 a lead changes no cost
--     asked_not, asked_led                     no move leads on, or one does
--     answered_not, answered_led               with the lower start
use Prim.Native.Nat.{ℕ, suc, ◌+◌, ◌-◌, ◌*◌, ◌/◌, ◌≤◌, ◌<◌, min}
use mathlib.Core.Path.{◌≡◌, refl, sym, ap, ◌∙◌}
use mathlib.Core.List.{List}
use mathlib.Core.Bool.{true, false, true≢false}
use native.Mathlib.Omega.{arith}
use lib.ListN.{length, get_or}
use Rattle.job.specs.Grid.{vertices}
use Rattle.job.specs.Structs.{grid_of, vertex_of, vertex_struct}
use Rattle.job.specs.declared.grid.Vertex.{Vertex}
use Rattle.rules.specs.Tracks.{vertex_by, at, entered}
use Rattle.rules.specs.Structs.{TechFits, tech_by, place_of}
use Rattle.rules.specs.declared.price.Tech.{Tech as TechStruct}
use Rattle.rules.specs.declared.step.Place.{Place as PlaceStruct}
use Rattle.rules.specs.Views.{View}
use Rattle.rules.specs.Segments.{Place}
use Rattle.rules.specs.Prices.{Tech}
use Rattle.rules.specs.Joins.{places}
use Rattle.rules.specs.Places.{place_code, place_at, GoodPlace}
use Rattle.bounds.specs.Bounds.{bound_of}
use Rattle.search.specs.Fronts.{costs, with_lead}
use Rattle.search.specs.Bits.{HasMove}
use Rattle.search.specs.Spreads.{keys}
use Rattle.search.specs.Leads.{lowest_by, Asked, Answered}
use Rattle.search.proofs.Numbers.{place_good, code_place}
use Rattle.search.proofs.Asking.{item_bound}
use Rattle.search.proofs.Putting.{lead_keys}
use Rattle.search.proofs.Costing.{costs_told, same-costs}
use Rattle.search.proofs.Turning.{distance_by}

module _ {tech : TechStruct} (held : TechFits tech) {item : ℕ} (known : item < places (tech_by tech)) where
  -- the place is good, and has that number
  pub item_place : GoodPlace (tech_by tech) (place_at tech.largest item) × (place_code (tech_by tech) (place_at tech.largest item) ≡ item)
  unfolding tech_by
  item_place = rw held.largest (place_good held.good known, code_place held.good known)

  module _ (place : PlaceStruct) (is : place_of place ≡ place_at tech.largest item) (bounds work : List ℕ) where
    -- its key, by what it costs and what is left
    module _ {from : Vertex} {key left : ℕ} (here : from ≡ vertex_struct (vertex_by (grid_of tech.grid) place.vertex))
        (some : 0 < costs (tech_by tech) bounds work item) (read : key ≡ keys work item) (rest : left ≡ bound_of bounds (vertex_of from)) where
      pub item_key : key - 1 ≡ 16 * (costs (tech_by tech) bounds work item - 1) + left
      item_key =
          let told = costs_told (tech_by tech) bounds work item {e = costs (tech_by tech) bounds work item - 1} (omega (arith, some)) in
          omega (arith, read, told, item_bound held known place is bounds here rest)

      -- and what it costs, by its key
      pub item_distance : (key - 1 - left) / 16 ≡ costs (tech_by tech) bounds work item - 1
      item_distance = distance_by (key - 1) left (costs (tech_by tech) bounds work item - 1) item_key

    -- the lowest move from it that leads on
    pub item_lowest : (view : View) (spots : List ℕ) (best : ℕ) {r distance : ℕ} → distance ≡ costs (tech_by tech) bounds work item - 1
        → r ≡ lowest_by (tech_by tech) view spots bounds work best (place_of place) distance
        → (e : ℕ) → costs (tech_by tech) bounds work item ≡ suc e → r ≡ lowest_by (tech_by tech) view spots bounds work best (place_at tech.largest item) e
    item_lowest view spots best {distance = distance} told lowest e from =
        let same : distance ≡ e = omega (arith, told, from) in
        lowest ∙ rw (is, same) refl

-- a lead changes no cost
pub led_cost : (t : Tech) (bounds work after : List ℕ) {item lead : ℕ} → item < length work → lead < 4
    → after ≡ with_lead work item lead → costs t bounds after item ≡ costs t bounds work item
led_cost t bounds work after {item} {lead} there few is =
    same-costs t bounds after work item (ap (λ (w : List ℕ). keys w item) is ∙ lead_keys work there lead few item)

module _ {t : Tech} {view : View} {spots bounds : List ℕ} {best item : ℕ} {p : Place} {near work : List ℕ} where
  -- no move leads on
  pub asked_not : length near ≡ 16384 → ((e : ℕ) → costs t bounds work item ≡ suc e → 4 ≤ lowest_by t view spots bounds work best p e)
      → Asked t view spots bounds best item p near work near work false
  asked_not long none =
      record {
        left = λ not. (refl, refl);
        none = λ not. none;
        lead = 0;
        known = λ is. absurd (true≢false (sym is));
        leads = λ is. absurd (true≢false (sym is));
        put = λ is. absurd (true≢false (sym is));
        lit = λ is. absurd (true≢false (sym is));
        stays = λ u m on. on;
        bytes = long;
      }

  -- a move does
  pub asked_led : {lights after : List ℕ} {lead : ℕ} → lead < 4 → ((e : ℕ) → costs t bounds work item ≡ suc e → lead ≡ lowest_by t view spots bounds work best p e)
      → after ≡ with_lead work item lead
      → ((u m : ℕ) → u < vertices t.grid → entered t.grid u m ≡ at p.vertex → HasMove (get_or lights u 0) m)
      → ((u m : ℕ) → HasMove (get_or near u 0) m → HasMove (get_or lights u 0) m) → length lights ≡ 16384 → Asked t view spots bounds best item p near work lights after true
  asked_led {lead = lead} known leads put lit stays long =
      record {
        left = λ not. absurd (true≢false not);
        none = λ not. absurd (true≢false not);
        lead = lead;
        known = λ is. known;
        leads = λ is. leads;
        put = λ is. put;
        lit = λ is. lit;
        stays = stays;
        bytes = long;
      }

  -- with the lower start
  pub answered_not : {start : ℕ} → Asked t view spots bounds best item p near work near work false
      → Answered t view spots bounds best item p near work near work start start
  answered_not asked = record { led = false; asked = asked; same = λ other. refl; lower = λ is. absurd (true≢false (sym is)) }

  pub answered_led : {lights after : List ℕ} {start r : ℕ} → Asked t view spots bounds best item p near work lights after true
      → ((costs t bounds after item ≡ 1 → ⊥) → r ≡ start) → (costs t bounds after item ≡ 1 → r ≡ min start p.vertex)
      → Answered t view spots bounds best item p near work lights after start r
  answered_led asked same lower =
      record { led = true; asked = asked; same = λ other. same (λ none. other refl none); lower = λ is none. lower none }
