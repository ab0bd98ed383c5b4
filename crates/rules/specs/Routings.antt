-- Routing a whole job: the records of each net in order, the metal that stands at the end, and the totals.
-- Specification: section 3.4.
--     Entry                    a record, with its net and what stood before it
--     Totals                   the running totals
--     route_net, route_nets    a net until all its pins are joined or there is no join; all nets
--     routing                  a job
use Rattle.std.specs.Prelude.{ℕ, zero, suc, ◌+◌, List, [], ◌∷◌, ◌++◌, length}
use Rattle.job.specs.Job.{Net, Job}
use Rattle.rules.specs.Views.{pins_of, view_of}
use Rattle.rules.specs.Prices.{tech_of}
use Rattle.rules.specs.Steps.{Made}
use Rattle.rules.specs.Walks.{start_at, Walked, stuck, walked, walk, walk_cost, walk_added, walk_penalties}
use Rattle.rules.specs.Standings.{Standing, metal_at_first, begun, joined_by}
use Rattle.rules.specs.Joins.{Record, join, none, join_of}

pub record Entry : Type 0 where
  pub net : ℕ
  pub before : Standing
  pub written : Record

-- "cost, added steps (M − n for each extension), penalised segments, nets fully joined"
pub record Totals : Type 0 where
  pub cost : ℕ
  pub added : ℕ
  pub penalties : ℕ
  pub joined : ℕ

unfoldable pub no_totals : Totals
no_totals = record { cost = 0; added = 0; penalties = 0; joined = 0 }

-- "The running totals are lent from join to join"
unfoldable pub with_join : Totals → List Made → Totals
with_join t ms = record { cost = t.cost + walk_cost ms; added = t.added + walk_added ms; penalties = t.penalties + walk_penalties ms; joined = t.joined }

unfoldable pub with_net : Totals → Totals
with_net t = record { cost = t.cost; added = t.added; penalties = t.penalties; joined = suc t.joined }

pub record Routed : Type 0 where
  pub entries : List Entry
  pub metal : List (List ℕ)
  pub totals : Totals

-- a record before those that follow it
unfoldable pub with_entry : Entry → Routed → Routed
with_entry e r = record { entries = e ∷ r.entries; metal = r.metal; totals = r.totals }

-- what stands and the totals after a join's moves; a join that is stuck ends the net
unfoldable pub after_join : (k : ℕ) → Standing → Totals → (Standing → Totals → Routed) → Walked → Routed
after_join k s totals rest stuck = record { entries = []; metal = s.metal; totals = totals }
after_join k s totals rest (walked last made) = rest (joined_by k s last.vertex made) (with_join totals made)

-- "With no legal join the net ends and the next begins."
unfoldable pub by_record : Job → (k : ℕ) → Standing → Totals → (Standing → Totals → Routed) → Record → Routed
by_record j k s totals rest none =
    record { entries = record { net = k; before = s; written = none } ∷ []; metal = s.metal; totals = totals }
by_record j k s totals rest (join start moves cost) =
    with_entry (record { net = k; before = s; written = join start moves cost })
    (after_join k s totals rest (walk (tech_of j) (view_of j k s.metal) (start_at start) moves))

-- "A net with every pin joined writes no 0." At most n joins; a join leaves fewer pins unjoined, so with n no
-- fewer than these, at 0 all are joined.
unfoldable pub route_net : Job → (k n : ℕ) → Standing → Totals → Routed
route_net j k zero s totals = record { entries = []; metal = s.metal; totals = with_net totals }
route_net j k (suc n) s totals =
    elim s.unjoined [
      | [] ↦ record { entries = []; metal = s.metal; totals = with_net totals }
      | p ∷ ps ↦ by_record j k s totals (route_net j k n) (join_of (tech_of j) (view_of j k s.metal) s.tree (p ∷ ps))
    ]

-- "Nets go in job order." "Metal stands for later nets."
unfoldable pub route_nets : Job → (k : ℕ) → List Net → (metal : List (List ℕ)) → Totals → Routed
route_nets j k [] metal totals = record { entries = []; metal = metal; totals = totals }
route_nets j k (net ∷ nets) metal totals =
    let pins = pins_of j.grid net in
    let this = route_net j k (length pins) (begun pins metal) totals in
    let rest = route_nets j (suc k) nets this.metal this.totals in
    record { entries = this.entries ++ rest.entries; metal = rest.metal; totals = rest.totals }

unfoldable pub routing : Job → Routed
routing j = route_nets j 0 j.nets (metal_at_first j) no_totals
