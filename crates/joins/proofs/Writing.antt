-- The turns of writing the route.
--     follow_no_goal                          where something is followed there is no goal
--     begun_at                                a walk of no moves stands at its start
--     Writing                                 what has been written, and that the rest gives the whole
--     writing_begun                           before the first move
--     writing_number                          the number of the next move
--     writing_legal                           the next move is legal
--     writing_fits, writing_on                what is known of it, and after it
--     writing_done                            after the last
use Prim.Native.Nat.{ℕ, suc, ◌+◌, ◌-◌, ◌*◌, ◌^◌, ◌≤◌, ◌<◌}
use mathlib.Core.Path.{◌≡◌, refl, sym, ap, ◌∙◌}
use mathlib.Core.List.{List, [], ◌∷◌, ◌++◌, flat_map}
use mathlib.Core.Bool.{Bool, true, false}
use native.Mathlib.Omega.{arith}
use lib.ListN.{length, set}
use Rattle.std.proofs.Common.{Some}
use Rattle.bits.specs.Bits.{field_bits}
use Rattle.bits.specs.Puts.{put_bits}
use Rattle.bits.proofs.Laws.{length-field_bits, length-put_bits, put_bits-append}
use Rattle.job.specs.Structs.{grid_of}
use Rattle.paths.specs.Systems.{blocked, to, System}
use Rattle.paths.specs.Distances.{lowest_keeping, follow}
use Rattle.paths.specs.Costs.{Cost}
use Rattle.paths.proofs.Following.{follow_goal, Onward, follow_onward}
use Rattle.rules.specs.Views.{View}
use Rattle.rules.specs.Segments.{Place}
use Rattle.rules.specs.Steps.{Made, legal, illegal, step, priced}
use Rattle.rules.specs.Joins.{places}
use Rattle.rules.specs.Places.{GoodPlace}
use Rattle.rules.specs.Structs.{TechFits, tech_by, seen_by, place_of, stepped_by, made_by, WholeMade, WholeStep, IsStepped}
use Rattle.rules.specs.declared.price.Tech.{Tech as TechStruct}
use Rattle.rules.specs.declared.step.Made.{Made as MadeStruct}
use Rattle.metal.specs.Codes.{lay_all, extended}
use Rattle.metal.proofs.Laid.{laid_length}
use Rattle.walker.specs.Entering.{Arrays, Gone, gone_at, gone_on, entered, enter_all, left_in}
use Rattle.walker.specs.Structs.{walk_from, walk_on, WalkFits, IsEntered}
use Rattle.walker.specs.declared.Walk.{Walk}
use Rattle.walker.proofs.Landing.{MoveFits, made_fits, made_entered, MovesMade, made_none, made_one, made_all}
use Rattle.walker.proofs.Entering.{enter_step}
use Rattle.walker.proofs.Nets.{empty}
use Rattle.search.specs.Fronts.{system_by, lead_at}
use Rattle.search.specs.Charts.{Charted, lowest_led}
use Rattle.joins.specs.Traces.{to_go, route_by}
use Rattle.joins.proofs.Tracing.{OnJoin, start_on, on_lowest, on_next}

-- where something is followed there is no goal
follow_no_goal : (S : System) (D : S.Place → Cost) (k : ℕ) (p : S.Place) → 0 < length (follow S D k p) → S.goal p ≡ false
follow_no_goal S D k p some = by (S.goal p) refl
  where
    by : (b : Bool) → S.goal p ≡ b → S.goal p ≡ false
    by true g = absurd (omega (arith, some, ap (λ (ms : List ℕ). length ms) (follow_goal S D k g)))
    by false g = g

-- a walk of no moves stands at its start
pub begun_at : {walk : Walk} {start : ℕ} → walk ≡ walk_from start → walk.place.vertex ≡ start
unfolding walk_from
begun_at is = ap (λ (w : Walk). w.place.vertex) is

module _ (tech : TechStruct) (seen bounds work : List ℕ) (net from best count start : ℕ) (first : Arrays) (found : List ℕ) where
  -- what the net at hand sees
  abbrev view : View
  view = seen_by tech seen

  -- places and moves, with the goals by the first bytes, and the costs to go
  abbrev S : System
  S = system_by (tech_by tech) view first.spots

  abbrev D : Place → Cost
  D = to_go (tech_by tech) view first.spots

  -- the moves from a place, with so many left at most
  abbrev moves_from_lem : (fuel : ℕ) → Place → List ℕ
  moves_from_lem fuel p = follow S D fuel p

  -- all moves
  abbrev pub route : List ℕ
  route = route_by (tech_by tech) view first.spots start

  -- so many moves are left: the rest from where the walk has led gives the whole, in the arrays and in the
  -- plan; until the last is made the walk is on a cheapest join
  pub record Writing (spots codes plan : List ℕ) (walk : Walk) (at left : ℕ) : Type 0 where
    pub gone : Gone
    pub fuel : ℕ
    pub made : MovesMade tech (count - left) walk gone
    pub rest : length (moves_from_lem fuel gone.place) ≡ left
    pub joins : 0 < left → OnJoin (tech_by tech) view first.spots bounds work best gone.place
    pub same : enter_all (tech_by tech) view net route (gone_at start) first
        ≡ enter_all (tech_by tech) view net (moves_from_lem fuel gone.place) gone (record { spots = spots; codes = codes })
    pub bits : put_bits found from (flat_map (field_bits 2) route) ≡ put_bits plan at (flat_map (field_bits 2) (moves_from_lem fuel gone.place))
    pub next : at + 2 * left ≡ from + 2 * count
    pub few : left ≤ count
    pub size : length codes ≡ length first.codes
    pub long : length plan ≡ length found

  -- before the first move
  pub writing_begun : {walk : Walk} {vertex : ℕ} → walk ≡ walk_from vertex → start ≡ vertex → TechFits tech
      → Charted (tech_by tech) view first.spots bounds work best → vertex ≡ lowest_led (tech_by tech) view first.spots work
      → count ≡ length (route_by (tech_by tech) view first.spots vertex) → Writing first.spots first.codes found walk from count
  unfolding route_by gone_at tech_by
  writing_begun begun here fits charted told counted =
      let none : count - count ≡ 0 = omega arith in
      let lowest = here ∙ told in
      let on = start_on (tech_by tech) view first.spots charted fits.good in
      record {
        gone = gone_at start;
        fuel = places (tech_by tech);
        made = rw (begun, ← here, none) (made_none tech start (rw lowest on.0));
        rest = rw here (sym counted);
        joins = λ some. rw lowest on.1;
        same = refl;
        bits = refl;
        next = refl;
        few = omega arith;
        size = refl;
        long = refl;
      }

  module _ {spots codes plan : List ℕ} {walk : Walk} {at left : ℕ} (so_far : Writing spots codes plan walk at left) (some : 0 < left) where
    -- the move that is next
    pub onward : Onward S D so_far.fuel so_far.gone.place
    onward = follow_onward _ _ so_far.fuel so_far.gone.place (omega (arith, some, so_far.rest))

    -- it is the lowest that keeps the entry
    abbrev pub Lowest : ℕ → Type 0
    Lowest number = number ≡ lowest_keeping S D so_far.gone.place onward.cost

    -- the place that the walk has led to is good
    place_good : GoodPlace (tech_by tech) so_far.gone.place
    place_good = rw (← so_far.made.is.place) so_far.made.place

    -- its number: the lead tells it
    pub writing_number : TechFits tech → Charted (tech_by tech) view first.spots bounds work best → {number : ℕ}
        → number ≡ lead_at (tech_by tech) work (place_of walk.place) → Lowest number
    writing_number fits charted told =
        rw so_far.made.is.place at told ∙ on_lowest (tech_by tech) view first.spots charted fits.good place_good (so_far.joins some) onward.entry

    module _ {number : ℕ} (numbered : Lowest number) where
      -- what it leads to
      leads : priced (step (tech_by tech) view (place_of walk.place) number) ≡ to onward.price onward.next
      leads = rw (so_far.made.is.place, numbered) onward.leads

      -- it is legal
      pub writing_legal : step (tech_by tech) view (place_of walk.place) number ≡ illegal → ⊥
      unfolding priced
      writing_legal is =
          let stops : priced (step (tech_by tech) view (place_of walk.place) number) ≡ blocked = rw is refl in
          let e : blocked ≡ to onward.price onward.next = sym stops ∙ leads in
          let z : ◌≡◌ {A = ℕ} 0 1 = cc in
          omega arith

      module _ (m : MadeStruct)
          (stepped : IsStepped (grid_of tech.grid) view (place_of walk.place) (Some m) (step (tech_by tech) view (place_of walk.place) number)) where
        -- the definition's move
        abbrev made : Made
        made = made_by (grid_of tech.grid) view (place_of walk.place) m

        is_step : step (tech_by tech) view (place_of walk.place) number ≡ legal made
        unfolding stepped_by
        is_step = sym stepped.same

        is_whole : WholeMade (grid_of tech.grid) view (place_of walk.place) m
        unfolding WholeStep
        is_whole = stepped.whole

        -- the place that it leads to
        is_next : onward.next ≡ place_of m.next
        unfolding priced made_by
        is_next =
            let e : to onward.price onward.next ≡ to (m.enter + m.over) (place_of m.next) = sym leads ∙ ap priced is_step in
            cc

        -- the moves that are left are it and the rest
        is_first : moves_from_lem so_far.fuel so_far.gone.place ≡ number ∷ moves_from_lem onward.left (place_of m.next)
        is_first = rw (numbered, ← is_next) onward.follows

        -- it leads to a good place, and its numbers are small
        pub writing_fits : TechFits tech → MoveFits tech m
        writing_fits fits = made_fits tech view walk.place number m is_step is_whole fits so_far.made.place

        -- where more moves follow, it enters no goal
        no_goal_lem : 0 < left - 1 → S.goal (place_of m.next) ≡ false
        no_goal_lem more =
            follow_no_goal S D onward.left (place_of m.next) (omega (arith, more, so_far.rest, ap (λ (ms : List ℕ). length ms) is_first))

        -- after the move
        pub writing_on : TechFits tech → Charted (tech_by tech) view first.spots bounds work best → {more after longer : List ℕ} {further : Walk} {next : ℕ}
            → more ≡ set spots m.next.vertex 1
            → after ≡ lay_all net (extended (grid_of tech.grid) (place_of walk.place) m.extension ++ (m.next.vertex ∷ [])) codes
            → longer ≡ put_bits plan at (field_bits 2 number) → next ≡ at + 2 → further ≡ walk_on walk m
            → Writing more after longer further next (left - 1)
        unfolding gone_on made_by flat_map
        writing_on fits charted {more} {after} {longer} {further} {next} tree_is laid put moved walked =
            let arrays = made_entered tech view walk.place number m is_step is_whole net spots codes tree_is laid in
            let one : count - (left - 1) ≡ suc (count - left) = omega (arith, so_far.few, some) in
            let rest = moves_from_lem onward.left (place_of m.next) in
            let here : step (tech_by tech) view so_far.gone.place number ≡ legal made = rw (← so_far.made.is.place) is_step in
            let wide : at + length (field_bits 2 number) ≡ next = rw (length-field_bits, moved) refl in
            record {
              gone = gone_on so_far.gone made;
              fuel = onward.left;
              made = rw (walked, one) (made_one tech view m so_far.made (writing_fits fits));
              rest = omega (arith, so_far.rest, ap (λ (ms : List ℕ). length ms) is_first);
              joins = λ yet. on_next (tech_by tech) view first.spots charted fits.good place_good (so_far.joins some) onward.entry
                  (rw is_next at onward.leads) (no_goal_lem yet);
              same =
                  so_far.same ∙ ap (λ (ms : List ℕ). enter_all (tech_by tech) view net ms so_far.gone (record { spots = spots; codes = codes })) is_first
                  ∙ enter_step (tech_by tech) view net number rest so_far.gone _ here
                  ∙ ap (enter_all (tech_by tech) view net rest (gone_on so_far.gone made)) arrays;
              bits =
                  so_far.bits ∙ ap (λ (ms : List ℕ). put_bits plan at (flat_map (field_bits 2) ms)) is_first
                  ∙ put_bits-append plan at (field_bits 2 number) (flat_map (field_bits 2) rest)
                  ∙ (λ i. put_bits (sym put i) (wide i) (flat_map (field_bits 2) rest));
              next = omega (arith, so_far.next, some, moved);
              few = omega (arith, so_far.few);
              size = ap (λ (l : List ℕ). length l) laid ∙ laid_length net _ codes ∙ so_far.size;
              long = ap (λ (l : List ℕ). length l) put ∙ length-put_bits plan at (field_bits 2 number) ∙ so_far.long;
            }

  -- after the last move
  pub writing_done : {spots codes plan : List ℕ} {walk : Walk} {at left : ℕ} → Writing spots codes plan walk at left → left ≤ 0 → count < 2 ^ 20
      → IsEntered walk (enter_all (tech_by tech) view net route (gone_at start) first) × (WalkFits walk
      × ((spots ≡ (left_in first (enter_all (tech_by tech) view net route (gone_at start) first)).spots)
      × ((codes ≡ (left_in first (enter_all (tech_by tech) view net route (gone_at start) first)).codes)
      × (plan ≡ put_bits found from (flat_map (field_bits 2) route)))))
  unfolding enter_all IsEntered left_in flat_map put_bits
  writing_done {spots} {codes} {plan} {walk} {at} so_far none few =
      let nothing = empty (moves_from_lem so_far.fuel so_far.gone.place) (omega (arith, so_far.rest, none)) in
      let all : enter_all (tech_by tech) view net route (gone_at start) first ≡ entered so_far.gone (record { spots = spots; codes = codes }) =
      so_far.same ∙ ap (λ (ms : List ℕ). enter_all (tech_by tech) view net ms so_far.gone (record { spots = spots; codes = codes })) nothing in
      let written = so_far.bits ∙ ap (λ (ms : List ℕ). put_bits plan at (flat_map (field_bits 2) ms)) nothing in
      rw all (so_far.made.is, (made_all so_far.made (omega (arith, few)), (refl, (refl, sym written))))
