-- The route of a join, move by move.
--     table_by                                       the costs to go are a table
--     Traced, trace_next, trace_made                 the move that is followed from a place, and what it
--                                                    leads to
--     trace_legal                                    it is not blocked
--     route_short                                    a route has fewer than 2^20 moves
--     OnJoin, start_on                               a place of a cheapest join; the lowest start with a lead
--                                                    is one
--     on_lowest, on_next                             there the lead tells the move that is followed, and it
--                                                    leads to a goal or on to such a place
--     Counting, counting_begun, _room, _on, _done    the moves so far, then the rest, are the route
use Prim.Native.Nat.{ℕ, suc, ◌+◌, ◌-◌, ◌^◌, ◌<◌}
use mathlib.Core.Path.{◌≡◌, sym, ap, ◌∙◌}
use mathlib.Core.List.{List, ◌∷◌}
use mathlib.Core.Bool.{true, false, true≢false}
use native.Mathlib.Omega.{arith}
use lib.ListN.{length}
use Rattle.job.specs.Grid.{vertices}
use Rattle.paths.specs.Systems.{blocked, to, System, Legal}
use Rattle.paths.specs.Distances.{keeps, lowest_keeping, follow}
use Rattle.paths.specs.Costs.{Cost, fin}
use Rattle.paths.specs.Tables.{Table}
use Rattle.paths.specs.Leads.{OnBest, on_best, Leads, ends, goes_on}
use Rattle.paths.proofs.Following.{follow_goal, follow_step, cost_keeps, kept}
use Rattle.paths.proofs.Cheapest.{dist_table, follow_short, keeps_leads, best_led, lowest_lead_lem}
use Rattle.paths.proofs.JoinLeads.{led_on}
use Rattle.paths.proofs.OnBest.{same_fin, near_best}
use Rattle.paths.proofs.Steps.{not_blocked, one_price, one_next}
use Rattle.rules.specs.Views.{View}
use Rattle.rules.specs.Segments.{Place}
use Rattle.rules.specs.Prices.{Tech}
use Rattle.rules.specs.Walks.{start_at}
use Rattle.rules.specs.Joins.{places}
use Rattle.rules.specs.Places.{GoodPlace, GoodTech}
use Rattle.rules.proofs.Places.{start_good, places_small}
use Rattle.search.specs.Fronts.{system_by, reached_by, lead_at}
use Rattle.search.specs.Charts.{Charted, lowest_led}
use Rattle.search.proofs.Lawful.{lawful_by, starts_good}
use Rattle.joins.specs.Traces.{to_go, route_by}

module _ (t : Tech) (view : View) (spots : List ℕ) where
  -- places and moves, with the goals by their bytes, and the costs to go
  abbrev S : System
  S = system_by t view spots

  abbrev D : Place → Cost
  D = to_go t view spots

  -- from p, whose cost to go is c, the lowest move that keeps it leads to q at a price, with a cost left
  pub record Traced (p : Place) (c cost : ℕ) (q : Place) (left : ℕ) : Type 0 where
    pub known : lowest_keeping S D p c < 4
    pub does : S.step p (lowest_keeping S D p c) ≡ to cost q
    pub good : GoodPlace t q
    pub entry : D q ≡ fin left
    pub sum : cost + left ≡ c
    pub follows : (k : ℕ) → follow S D (suc k) p ≡ lowest_keeping S D p c ∷ follow S D k q

  module _ (fine : GoodTech t) where
    -- the costs to go are a table
    pub table_by : Table S (GoodPlace t) D
    table_by = dist_table (lawful_by view spots fine)

    module _ (p : Place) (c : ℕ) (on : GoodPlace t p) (g : S.goal p ≡ false) (is : D p ≡ fin c) where
      -- the move that is followed from a place
      pub trace_next : (cost : ℕ) × (q : Place) × (left : ℕ) × Traced p c cost q left
      trace_next =
          let next = kept (lawful_by view spots fine) table_by on g is in (
            next.price,
            next.next,
            next.left,
            record {
              known = next.legal.known;
              does = next.legal.leads;
              good = next.good;
              entry = next.entry;
              sum = next.sum;
              follows = λ k. follow_step S D k g is next.legal.leads;
            },
          )

      -- it is not blocked
      pub trace_legal : S.step p (lowest_keeping S D p c) ≡ blocked → ⊥
      trace_legal stopped = let (cost, q, left, next) = trace_next in not_blocked (sym stopped ∙ next.does)

      -- with the price and the place that it is known to have
      pub trace_made : {cost : ℕ} {q : Place} → S.step p (lowest_keeping S D p c) ≡ to cost q → Traced p c cost q (c - cost)
      trace_made {cost} {q} does =
          let (price, r, left, next) = trace_next in
          let same : to cost q ≡ to price r = sym does ∙ next.does in
          let paid : cost ≡ price = one_price same in
          let there : q ≡ r = one_next same in
          let rest : c - cost ≡ left = omega (arith, next.sum) in
          rw (rest, paid, there) next

    -- a route has fewer moves than there are places
    route_below : {start : ℕ} → start < vertices t.grid → length (route_by t view spots start) < places t
    unfolding route_by
    route_below h = follow_short (lawful_by view spots fine) table_by (places t) (start_good h)

    -- and fewer than 2^20
    pub route_short : {start : ℕ} → start < vertices t.grid → length (route_by t view spots start) < 2 ^ 20
    route_short h = omega (arith, route_below h, places_small fine)

  -- ---- places of cheapest joins

  module _ (bounds work : List ℕ) (best : ℕ) where
    -- a place of a cheapest join
    abbrev pub OnJoin : Place → Type 0
    OnJoin p = OnBest S (reached_by t bounds work) best D p

    -- so many moves are made, and the place that they lead to is a goal or of a cheapest join; these and what
    -- is followed from there are the route
    pub record Counting (start : ℕ) (p : Place) (count : ℕ) : Type 0 where
      pub good : GoodPlace t p
      pub joins : S.goal p ≡ false → OnJoin p
      pub rest : length (route_by t view spots start) ≡ count + length (follow S D (places t - count) p)

  module _ {bounds work : List ℕ} {best : ℕ} (charted : Charted t view spots bounds work best) (fine : GoodTech t) where
    -- the lowest start with a lead is one
    pub start_on : (lowest_led t view spots work < vertices t.grid) × OnJoin bounds work best (start_at (lowest_led t view spots work))
    start_on =
        let (below, is, on) = led_on (lawful_by view spots fine) (table_by fine) (starts_good t view spots) charted.low charted.forward charted.leading in
        (below, on)

    module _ {p : Place} (on : GoodPlace t p) where
      -- the move that its lead tells is the one that is followed
      pub on_lowest : {c : ℕ} → OnJoin bounds work best p → D p ≡ fin c → lead_at t work p ≡ lowest_keeping S D p c
      on_lowest {c} (on_best {e = e} {d = d} g at left sum) cost =
          let joins : OnJoin bounds work best p = on_best g at left sum in
          let near = near_best (lawful_by view spots fine) (table_by fine) (starts_good t view spots) charted.low charted.forward on at joins in
          let led = best_led (lawful_by view spots fine) (table_by fine) (starts_good t view spots) charted.low charted.forward charted.leading on joins in
          charted.told on at near led
          ∙ lowest_lead_lem (lawful_by view spots fine) (table_by fine) (starts_good t view spots) charted.low charted.forward charted.leading on g at left sum
          ∙ ap (lowest_keeping S D p) (same_fin left cost)

      -- it leads to a goal, or on to such a place
      pub on_next : {c cost : ℕ} {q : Place} → OnJoin bounds work best p → D p ≡ fin c → S.step p (lowest_keeping S D p c) ≡ to cost q → S.goal q ≡ false
          → OnJoin bounds work best q
      on_next {c} {cost} {q} (on_best {e = e} {d = d} g at left sum) is does no_goal_lem =
          by (keeps_leads (lawful_by view spots fine) (table_by fine) (starts_good t view spots) charted.low charted.forward on g at is
          (omega (arith, same_fin left is)) next.known keep)
        where
          next : Traced p c cost q (c - cost)
          next = trace_made fine p c on g is does

          keep : keeps S D p c (lowest_keeping S D p c) ≡ true
          keep = cost_keeps S D p c (lowest_keeping S D p c) (rw (does, next.entry) (ap fin next.sum))

          there : {d : ℕ} {r : Place} → Legal S p (lowest_keeping S D p c) d r → q ≡ r
          there legal = one_next (sym does ∙ legal.leads)

          by : Leads S (reached_by t bounds work) best (OnJoin bounds work best) p e (lowest_keeping S D p c) → OnJoin bounds work best q
          by (ends legal goal total) = absurd (true≢false (sym (rw (← there legal) at goal) ∙ no_goal_lem))
          by (goes_on legal other at also) = rw (there legal) also

    -- ---- counting

    module _ {start : ℕ} (from : start ≡ lowest_led t view spots work) where
      -- the start is a vertex
      start_below : start < vertices t.grid
      start_below = rw from start_on.0

      -- no move is made
      pub counting_begun : Counting bounds work best start (start_at start) 0
      unfolding route_by
      counting_begun =
          let whole : places t - 0 ≡ places t = omega arith in
          record { good = start_good start_below; joins = λ g. rw from start_on.1; rest = rw whole (omega arith) }

      module _ {p : Place} {count : ℕ} (so_far : Counting bounds work best start p count) where
        -- there are fewer moves than places
        pub counting_room : count < places t
        counting_room = omega (arith, so_far.rest, route_below fine start_below)

        -- one more
        pub counting_on : {c cost left : ℕ} {q : Place} → S.goal p ≡ false → D p ≡ fin c → Traced p c cost q left
            → Counting bounds work best start q (count + 1)
        counting_on {q = q} g is next =
            let more : places t - count ≡ suc (places t - (count + 1)) = omega (arith, counting_room) in
            let rest = rw (more, next.follows) at so_far.rest in
            record { good = next.good; joins = on_next so_far.good (so_far.joins g) is next.does; rest = omega (arith, rest) }

        -- all are made
        pub counting_done : S.goal p ≡ true → count ≡ length (route_by t view spots start)
        counting_done g = let rest = rw (follow_goal S D (places t - count) {s = p} g) at so_far.rest in omega (arith, rest)
