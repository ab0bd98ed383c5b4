-- The move that is followed from a place of a cheapest join, in the code's words.
--     lead_read                        the number of the move that a lead tells, as the code reads it
--     followed_legal, followed_made    the move is legal; what it made while the moves are counted
use Prim.Native.Nat.{ℕ, ◌+◌, ◌%◌}
use mathlib.Core.Path.{◌≡◌, refl, ◌∙◌}
use mathlib.Core.List.{List}
use mathlib.Core.Bool.{false}
use lib.ListN.{get_or}
use lib.Dec.{eqb}
use Rattle.job.specs.Structs.{grid_of}
use Rattle.paths.specs.Distances.{lowest_keeping}
use Rattle.paths.specs.Costs.{fin}
use Rattle.paths.specs.Leads.{on_best}
use Rattle.rules.specs.Views.{View}
use Rattle.rules.specs.Steps.{step, illegal, priced}
use Rattle.rules.specs.Places.{code_by, GoodPlace}
use Rattle.rules.specs.Structs.{TechFits, tech_by, seen_by, place_of, stepped_by, made_by}
use Rattle.rules.specs.declared.price.Tech.{Tech as TechStruct}
use Rattle.rules.specs.declared.step.Place.{Place as PlaceStruct}
use Rattle.heap.specs.Heaps.{slot_of}
use Rattle.search.specs.Fronts.{system_by, lead_at}
use Rattle.search.proofs.Asking.{code_made}
use Rattle.search.specs.Charts.{Charted, lowest_led}
use Rattle.joins.specs.Traces.{to_go}
use Rattle.joins.specs.Led.{IsLed}
use Rattle.joins.specs.declared.led.Led.{Led}
use Rattle.joins.proofs.Tracing.{OnJoin, on_lowest, trace_made, trace_legal, Counting, counting_on}

-- the move that the lead of a place tells, as the code reads it
pub lead_read : {tech : TechStruct} → TechFits tech → (work : List ℕ) (place : PlaceStruct) → GoodPlace (tech_by tech) (place_of place)
    → {code number : ℕ} → code ≡ code_by tech.largest (place_of place)
    → number ≡ slot_of (get_or work code 0) % 4 → number ≡ lead_at (tech_by tech) work (place_of place)
unfolding lead_at
lead_read held work place on made is = rw (is, code_made held place on made) refl

module _ {tech : TechStruct} (held : TechFits tech) (seen : List ℕ) {spots bounds work : List ℕ} {best : ℕ}
    (charted : Charted (tech_by tech) (seen_by tech seen) spots bounds work best) (place : PlaceStruct) where
  -- what the net at hand sees
  abbrev view : View
  view = seen_by tech seen

  module _ {start count : ℕ} (so_far : Counting (tech_by tech) view spots bounds work best start (place_of place) count)
      (goes : eqb (get_or spots place.vertex 0) 2 ≡ false) where
    -- a place of a cheapest join has a cost to go
    cost_here : (c : ℕ) × (to_go (tech_by tech) view spots (place_of place) ≡ fin c)
    cost_here = by (so_far.joins goes)
      where
        by : OnJoin (tech_by tech) view spots bounds work best (place_of place) → (c : ℕ) × (to_go (tech_by tech) view spots (place_of place) ≡ fin c)
        by (on_best {d = d} g at left sum) = (d, left)

    -- the number of its move
    lowest : {number : ℕ} → number ≡ lead_at (tech_by tech) work (place_of place)
        → number ≡ lowest_keeping (system_by (tech_by tech) view spots) (to_go (tech_by tech) view spots) (place_of place) cost_here.0
    lowest told = told ∙ on_lowest (tech_by tech) view spots charted held.good so_far.good (so_far.joins goes) cost_here.1

    -- it is legal
    pub followed_legal : step (tech_by tech) view (place_of place) (lead_at (tech_by tech) work (place_of place)) ≡ illegal → ⊥
    unfolding priced
    followed_legal is =
        let (c, cost) = cost_here in
        trace_legal (tech_by tech) view spots held.good (place_of place) c so_far.good goes cost (rw (← lowest refl, is) refl)

    -- one more is counted
    pub followed_made : {led : Led} → start ≡ lowest_led (tech_by tech) view spots work
        → IsLed (grid_of tech.grid) (tech_by tech) view work (place_of place) led
        → Counting (tech_by tech) view spots bounds work best start (place_of led.made.next) (count + 1)
    unfolding stepped_by made_by priced
    followed_made {led} from is =
        let (c, cost) = cost_here in
        counting_on (tech_by tech) view spots charted held.good from so_far goes cost
        (trace_made (tech_by tech) view spots held.good (place_of place) c so_far.good goes cost {cost = led.made.enter + led.made.over}
        {q = place_of led.made.next} (rw (← lowest is.number, ← is.stepped.same) refl))
