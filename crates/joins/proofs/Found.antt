-- The join that the bytes tell is the cheapest join of what stands, and the one that a search from the tree
-- found.
--     found_join       it is the cheapest join of what stands
--     found_led        after a search that found an unjoined pin the leads tell its start, and it has its
--                      cost
--     found_nothing    where a search found none there is no join
use Prim.Native.Nat.{ℕ, zero, suc, ◌<◌}
use mathlib.Core.Path.{◌≡◌, refl, sym, ap, ◌∙◌}
use mathlib.Core.List.{List, ◌∷◌}
use mathlib.Core.Bool.{Bool, true, false, cond}
use lib.ListN.{get_or}
use lib.Dec.{eqb}
use Rattle.job.specs.Grid.{vertices}
use Rattle.paths.specs.Systems.{System}
use Rattle.paths.specs.Distances.{lowest_keeping, keeps, follow}
use Rattle.paths.specs.Costs.{Cost, fin, inf}
use Rattle.paths.specs.Tables.{Table}
use Rattle.paths.specs.Starts.{Choice, none, first, start_cost}
use Rattle.paths.specs.Foremost.{Chooses}
use Rattle.paths.specs.Forward.{Forward}
use Rattle.paths.proofs.Following.{follow_none, follow_goal, follow_inf, follow_step}
use Rattle.paths.proofs.Starts.{best_chooses, best-same}
use Rattle.paths.proofs.Cheapest.{forward_none, leads_best}
use Rattle.rules.specs.Views.{View, member}
use Rattle.rules.specs.Segments.{Place}
use Rattle.rules.specs.Prices.{Tech}
use Rattle.rules.specs.Walks.{system, start_at}
use Rattle.rules.specs.Joins.{Record, places, join_of}
use Rattle.rules.specs.Tabled.{starts, join_from, join_by}
use Rattle.rules.specs.Places.{GoodPlace, GoodTech}
use Rattle.rules.specs.Apart.{Apart}
use Rattle.rules.proofs.Places.{start_good}
use Rattle.rules.proofs.Joins.{join_by_table}
use Rattle.tree.specs.Spots.{Spots}
use Rattle.tree.proofs.Spots.{spot_goal, spot_tree}
use Rattle.bounds.specs.Bounds.{Bounding}
use Rattle.search.specs.Fronts.{system_by, starts_by, reached_by, at_least}
use Rattle.search.specs.Charts.{Charted, lowest_led}
use Rattle.search.proofs.Lawful.{lawful_by, starts_good}
use Rattle.search.proofs.Costing.{bounds_low}
use Rattle.joins.specs.Traces.{to_go, choice_of, route_by, join_chosen, join_by_spots}
use Rattle.joins.proofs.Tracing.{table_by, trace_next}

module _ (t : Tech) (view : View) (spots : List ℕ) (good : GoodTech t) where
  -- places and moves, with the goals by their bytes, and the costs to go
  abbrev S : System
  S = system_by t view spots

  abbrev D : Place → Cost
  D = to_go t view spots

  -- ---- the tree and the unjoined pins that the bytes tell

  module _ (tree unjoined : List ℕ) (told : Spots t.grid tree unjoined spots) (apart : Apart t tree unjoined) where
    abbrev R : System
    R = system t view unjoined

    -- the goals are the same
    goal_same : (p : Place) → GoodPlace t p → eqb (get_or spots p.vertex 0) 2 ≡ member p.vertex unjoined
    goal_same p on = spot_goal t.grid tree unjoined spots p.vertex (apart.no_goal p.vertex) on.vertex told

    -- so the costs to go are a table for these lists
    spots_table : Table R (GoodPlace t) D
    spots_table =
        let T = table_by t view spots good in
        record {
          goals = λ {s} on g. T.goals on (goal_same s on ∙ g);
          settled = λ {s} {m} on g known. T.settled on (goal_same s on ∙ g) known;
          supported = λ {s} {n} on g is. T.supported on (goal_same s on ∙ g) is;
        }

    -- it is followed alike
    follow_spots : (k : ℕ) (p : Place) → GoodPlace t p → follow S D k p ≡ follow R D k p
    unfolding lowest_keeping keeps
    follow_spots zero p on = follow_none S D p ∙ sym (follow_none R D p)
    follow_spots (suc k) p on = by (member p.vertex unjoined) refl (D p) refl (λ q. follow_spots k q)
      where
        by : (b : Bool) → member p.vertex unjoined ≡ b → (x : Cost) → D p ≡ x → ((q : Place) → GoodPlace t q → follow S D k q ≡ follow R D k q)
            → follow S D (suc k) p ≡ follow R D (suc k) p
        by true g x e again = follow_goal S D (suc k) (goal_same p on ∙ g) ∙ sym (follow_goal R D (suc k) g)
        by false g inf e again = follow_inf S D (suc k) (goal_same p on ∙ g) e ∙ sym (follow_inf R D (suc k) g e)
        by false g (fin c) e again =
            let (cost, q, left, next) = trace_next t view spots good p c on (goal_same p on ∙ g) e in
            next.follows k ∙ ap (λ (ms : List ℕ). lowest_keeping S D p c ∷ ms) (again q next.good) ∙ sym (follow_step R D k g e next.does)

    -- the same cost from each start
    cost_same : (v : ℕ) → v < vertices t.grid → start_cost (starts_by t view spots) D v ≡ start_cost (starts t view tree unjoined) D v
    unfolding start_cost
    cost_same v h = ap (λ (b : Bool). cond b (D (start_at v)) inf) (spot_tree t.grid tree unjoined spots v h told)

    -- the same moves from the chosen one
    chosen_same : (b : Choice) → Chooses (start_cost (starts_by t view spots) D) (vertices t.grid) b
        → join_chosen t view spots b ≡ join_from t view tree unjoined D b
    unfolding join_chosen join_from route_by
    chosen_same none h = refl
    chosen_same (first v c) h = ap (λ (ms : List ℕ). Record.join v ms c) (follow_spots (places t) (start_at v) (start_good h.below))

    -- the join by the bytes is the join
    pub found_join : join_by_spots t view spots ≡ join_of t view tree unjoined
    unfolding join_by_spots choice_of join_by
    found_join =
        chosen_same _ (best_chooses (start_cost (starts_by t view spots) D) (vertices t.grid))
        ∙ ap (join_from t view tree unjoined D) (best-same _ _ (vertices t.grid) cost_same)
        ∙ join_by_table good view tree unjoined spots_table

  -- ---- the search from the tree

  -- after a search that found an unjoined pin the leads tell the join's start, and it has its cost
  pub found_led : {bounds work : List ℕ} {best : ℕ} → Charted t view spots bounds work best
      → join_by_spots t view spots ≡ Record.join (lowest_led t view spots work) (route_by t view spots (lowest_led t view spots work)) best
  unfolding join_by_spots choice_of join_chosen
  found_led charted =
      let laws = lawful_by view spots good in
      ap (join_chosen t view spots)
      (leads_best laws (table_by t view spots good) (starts_good t view spots) charted.low charted.forward charted.leading)

  -- where a search found none there is no join
  pub found_nothing : (bounds work : List ℕ) → Bounding t spots bounds
      → Forward S (GoodPlace t) (starts_by t view spots) (at_least t bounds) (reached_by t bounds work) inf → join_by_spots t view spots ≡ Record.none
  unfolding join_by_spots choice_of join_chosen
  found_nothing bounds work bounding forward =
      let laws = lawful_by view spots good in
      ap (join_chosen t view spots) (forward_none laws (table_by t view spots good) (starts_good t view spots) (bounds_low view good bounding) forward)
