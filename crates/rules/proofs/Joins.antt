-- The join that `join_of` computes is the cheapest, and the only one.
--     one_join                 there is one join at most
--     join_by_table            `join_of` is the join by any table of the least costs
--     join_is, join_only       it is the join, and nothing else is
--     join_route               its moves are a route
--     join_least, join_none    no rival costs less; where there is no join there is no rival
--     join_short               it has fewer moves than there are places
--     join_fits                it has fewer than 2^20 moves and costs less than 2^40
use Prim.Native.Nat.{ℕ, ◌^◌, ◌≤◌, ◌<◌}
use mathlib.Core.Path.{◌≡◌, refl, sym, ap, ◌∙◌}
use mathlib.Core.Logic.{◌⊎◌, inl, inr}
use mathlib.Core.List.{List}
use native.Mathlib.Nat.{mul-le-mul_left}
use native.Mathlib.Omega.{arith}
use native.Mathlib.Decide.{dec_lt}
use lib.ListN.{length}
use Rattle.job.specs.Grid.{vertices}
use Rattle.paths.specs.Systems.{System}
use Rattle.paths.specs.Tables.{Lawful, Table}
use Rattle.paths.specs.Distances.{dist, follow}
use Rattle.paths.specs.Costs.{Cost}
use Rattle.paths.specs.Starts.{Choice, best, Starts, start_cost}
use Rattle.paths.specs.Rivals.{Join, Ahead, by_cost}
use Rattle.paths.specs.Foremost.{GoodStarts, Foremost, join_from as joinAt}
use Rattle.paths.proofs.Cheapest.{shorter, route_rival, route_cost, dist_table, follow_short}
use Rattle.paths.proofs.Cheapest.{start_foremost, start_none, ahead_total}
use Rattle.paths.proofs.FoundTable.{choice_found, found_best}
use Rattle.rules.specs.Views.{View}
use Rattle.rules.specs.Segments.{Place}
use Rattle.rules.specs.Prices.{Tech}
use Rattle.rules.specs.Walks.{system, start_at, Rival, Route}
use Rattle.rules.specs.Apart.{Apart}
use Rattle.rules.specs.Joins.{Record, join, none, IsJoin, first, no_route, places, record_of, found_from, join_of}
use Rattle.rules.specs.Tabled.{starts, join_from, join_by}
use Rattle.rules.specs.Places.{place_code, GoodPlace, GoodTech, dearest_move}
use Rattle.rules.proofs.Places.{start_good, places_small}
use Rattle.rules.proofs.Lawful.{lawful, costs_small}

-- ---- any join

-- a join is not none
not_none : {s c : ℕ} {ms : List ℕ} → join s ms c ≡ none → ⊥
not_none e = let z : ◌≡◌ {A = ℕ} 0 1 = cc in omega arith

-- what is not ahead is no cheaper
no_dearer : (j k : Join) → (Ahead j k → ⊥) → k.cost ≤ j.cost
no_dearer j k behind = by (dec_lt j.cost k.cost)
  where
    by : Dec (j.cost < k.cost) → k.cost ≤ j.cost
    by (yes h) = absurd (behind (by_cost h))
    by (no h) = omega arith

module _ {t : Tech} {view : View} {tree unjoined : List ℕ} where
  -- a join's moves are a route
  is_route : {r : Record} {s c : ℕ} {ms : List ℕ} → IsJoin t view tree unjoined r → r ≡ join s ms c → Route t view tree unjoined s ms c
  is_route {s = s} {c = c} {ms = ms} (first k route ahead e) is =
      let start : k.start ≡ s = cc in
      let moves : k.moves ≡ ms = cc in
      let cost : k.cost ≡ c = cc in
      rw (start, moves, cost) at route
  is_route (no_route none_is e) is = absurd (not_none (sym is ∙ e))

  -- there is one join at most
  pub one_join : {r q : Record} → IsJoin t view tree unjoined r → IsJoin t view tree unjoined q → r ≡ q
  one_join {r} {q} (first k route ahead e) (first l route' ahead' e') = by (ahead_total k l)
    where
      by : (k ≡ l) ⊎ Ahead k l ⊎ Ahead l k → r ≡ q
      by (inl same) = e ∙ ap (λ (x : Join). join x.start x.moves x.cost) same ∙ sym e'
      by (inr (inl h)) = absurd (ahead' k route h)
      by (inr (inr h)) = absurd (ahead l route' h)
  one_join (first k route ahead e) (no_route nothing e') = absurd (nothing k route)
  one_join (no_route nothing e) (first l route ahead e') = absurd (nothing l route)
  one_join (no_route nothing e) (no_route nothing' e') = e ∙ sym e'

-- ---- the join that is computed

module _ {t : Tech} (good : GoodTech t) (view : View) (tree unjoined : List ℕ) {D : Place → Cost}
    (T : Table (system t view unjoined) (GoodPlace t) D) where
  -- what follows a table from a start that was chosen, as a record
  choice_record : (b : Choice)
      → join_from t view tree unjoined D b ≡ record_of (choice_found (lawful view unjoined good) T (starts t view tree unjoined) b)
  unfolding join_from choice_found record_of
  choice_record Choice.none = refl
  choice_record (Choice.first v c) = refl

  -- the join is the join by any table of the least costs
  pub join_by_table : join_by t view tree unjoined D ≡ join_of t view tree unjoined
  unfolding join_by join_of found_from
  join_by_table =
      let X = starts t view tree unjoined in
      choice_record (best (start_cost X D) (vertices t.grid))
      ∙ ap record_of (sym (found_best (lawful view unjoined good) T X (vertices t.grid) (λ v h. start_good h)))

module _ {t : Tech} (good : GoodTech t) (view : View) {tree unjoined : List ℕ} (apart : Apart t tree unjoined) where
  abbrev S : System
  S = system t view unjoined

  abbrev X : Starts S
  X = starts t view tree unjoined

  -- the laws of cheapest walks hold
  laws : Lawful S (GoodPlace t) (place_code t) (places t) dearest_move
  laws = lawful view unjoined good

  -- a start is a good place and no goal
  starts_good : GoodStarts S (GoodPlace t) X
  unfolding start_at
  starts_good = record { good = λ h e. start_good h; no_goal = λ {v} h e. apart.no_goal v e }

  module _ {D : Place → Cost} (T : Table S (GoodPlace t) D) where
    -- what is followed from the best start is the join
    chosen_is : (b : Choice) → best (start_cost X D) (vertices t.grid) ≡ b → IsJoin t view tree unjoined (join_from t view tree unjoined D b)
    unfolding join_from
    chosen_is Choice.none e =
        no_route (λ k r. start_none laws T starts_good e (apart.on_grid _ r.on_tree) r.on_tree (route_rival r.walks)) refl
    chosen_is (Choice.first v c) e =
        first this (record { on_tree = taken.joins.is_start; walks = taken.joins.route })
        (λ other r. taken.first other (record { below = apart.on_grid _ r.on_tree; is_start = r.on_tree; route = r.walks })) refl
      where
        this : Join
        this = joinAt X D (places t) v c

        taken : Foremost S X this
        taken = start_foremost laws T starts_good e

    -- so the join by a table is the join
    table_is : IsJoin t view tree unjoined (join_by t view tree unjoined D)
    unfolding join_by
    table_is = chosen_is (best (start_cost X D) (vertices t.grid)) refl

  -- what is computed is the join
  pub join_is : IsJoin t view tree unjoined (join_of t view tree unjoined)
  join_is = rw (← (join_by_table good view tree unjoined (dist_table laws))) (table_is (dist_table laws))

  -- and nothing else is
  pub join_only : {r : Record} → IsJoin t view tree unjoined r → r ≡ join_of t view tree unjoined
  join_only h = one_join h join_is

  -- its moves are a route
  pub join_route : {s c : ℕ} {ms : List ℕ} → join_of t view tree unjoined ≡ join s ms c → Route t view tree unjoined s ms c
  join_route e = is_route join_is e

  -- a route that costs no more than a rival
  route_for : {s c : ℕ} {ms : List ℕ} → Rival t view tree unjoined s ms c
      → (ns : List ℕ) × (d : ℕ) × Route t view tree unjoined s ns d × (d ≤ c)
  route_for {s} r =
      let on = apart.on_grid s r.on_tree in
      let (ns, d, route, cheaper, short) = shorter laws (starts_good.good on r.on_tree) (starts_good.no_goal on r.on_tree) r.walks in
      (ns, d, record { on_tree = r.on_tree; walks = route }, cheaper)

  -- no rival costs less
  pub join_least : {s c s' c' : ℕ} {ms ms' : List ℕ} → join_of t view tree unjoined ≡ join s ms c → Rival t view tree unjoined s' ms' c' → c ≤ c'
  join_least {s} {c} {s'} {c'} {ms} e r = by join_is
    where
      by : IsJoin t view tree unjoined (join_of t view tree unjoined) → c ≤ c'
      by (first k route ahead is) =
          let (ns, d, other, cheaper) = route_for r in
          let this : join k.start k.moves k.cost ≡ join s ms c = sym is ∙ e in
          let cost : k.cost ≡ c = cc in
          omega (arith, no_dearer (record { cost = d; start = s'; moves = ns }) k (ahead _ other))
      by (no_route nothing is) = absurd (not_none (sym e ∙ is))

  -- where there is no join there is no rival
  pub join_none : {s c : ℕ} {ms : List ℕ} → join_of t view tree unjoined ≡ none → Rival t view tree unjoined s ms c → ⊥
  join_none {s} e r = by join_is
    where
      by : IsJoin t view tree unjoined (join_of t view tree unjoined) → ⊥
      by (first k route ahead is) = not_none (sym is ∙ e)
      by (no_route nothing is) = let (ns, d, route, cheaper) = route_for r in nothing (record { cost = d; start = s; moves = ns }) route

  -- a join has fewer moves than there are places
  pub join_short : {s c : ℕ} {ms : List ℕ} → join_of t view tree unjoined ≡ join s ms c → length ms < places t
  unfolding join_by join_from
  join_short {s} {c} {ms} e =
      by (best (start_cost X D) (vertices t.grid)) refl (join_by_table good view tree unjoined (dist_table laws) ∙ e)
    where
      D : Place → Cost
      D = dist S (places t)

      by : (b : Choice) → best (start_cost X D) (vertices t.grid) ≡ b → join_from t view tree unjoined D b ≡ join s ms c → length ms < places t
      by Choice.none chosen is = absurd (not_none (sym is))
      by (Choice.first v d) chosen is =
          let moves : follow S D (places t) (start_at v) ≡ ms = cc in
          let on = (start_foremost laws (dist_table laws) starts_good chosen).joins.below in
          rw moves at (follow_short laws (dist_table laws) (places t) (start_good on))

  -- its number of moves and its cost fit their fields
  pub join_fits : {s c : ℕ} {ms : List ℕ} → join_of t view tree unjoined ≡ join s ms c → (length ms < 2 ^ 20) × (c < 2 ^ 40)
  join_fits {s} {c} {ms} e =
      let short = join_short e in
      let route = join_route e in
      let few : length ms ≤ places t = omega arith in
      let ok = start_good (apart.on_grid s route.on_tree) in
      let cost = route_cost laws ok route.walks in
      (omega (arith, places_small good), omega (arith, cost, mul-le-mul_left dearest_move few, costs_small good))
