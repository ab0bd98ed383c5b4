-- The plan that routing makes of a good job is legal, it is read as what routing gives, and every record in
-- it is cheapest.
--     NetsRouted               what was routed of some nets is their entries, with the metal and the totals
--                              after them
--     routing_entries          so is what was routed of a job
--     routing_legal            routing's plan is legal
--     routing_read_lem         and read as what routing gives
--     routing_plan_cheapest    and cheapest
--     routing_plan_by_ties     and holds the joins that the ties name
use Prim.Native.Nat.{ℕ, zero, suc, ◌≤◌}
use mathlib.Core.Path.{◌≡◌, refl, sym, ap, ◌∙◌}
use mathlib.Core.List.{List, [], ◌∷◌}
use native.Mathlib.Omega.{arith}
use lib.ListN.{length}
use Rattle.job.specs.Lists.{All}
use Rattle.job.specs.Job.{Net, Job}
use Rattle.job.specs.Good.{GoodJob}
use Rattle.job.specs.Reading.{good}
use Rattle.rules.specs.Views.{pins_of, view_of}
use Rattle.rules.specs.Prices.{tech_of}
use Rattle.rules.specs.Joins.{Record, join, none, join_of}
use Rattle.rules.specs.Standings.{Standing, metal_at_first, begun, joined_by}
use Rattle.rules.specs.Apart.{Stands}
use Rattle.rules.specs.Routings.{Totals, no_totals, with_join, with_net, Routed, with_entry, after_join, by_record, route_net, route_nets, routing}
use Rattle.rules.specs.Places.{GoodTech}
use Rattle.rules.proofs.Techs.{good_tech}
use Rattle.rules.proofs.Walks.{route_walk}
use Rattle.rules.proofs.Joins.{join_route, join_fits}
use Rattle.rules.proofs.Standing.{nets_apart, joined_apart}
use Rattle.plan.specs.Layout.{plan_of}
use Rattle.plan.specs.Reading.{read_plan}
use Rattle.plan.specs.Legal.{NetEntries, all_joined, gave_up, joins, JobEntries, no_nets, next_net, LegalPlan}
use Rattle.plan.specs.Claim.{Cheapest, ByTies}
use Rattle.plan.proofs.Unjoined.{without_shorter, none_left, begun-length}
use Rattle.plan.proofs.NetRead.{net_totals}
use Rattle.plan.proofs.NetsRead.{job_metal, job_totals}
use Rattle.plan.proofs.TwoWay.{plan_below, plan_read}
use Rattle.plan.proofs.Records.{routing_cheapest, routing_first}

-- what was routed from a standing of net k is its entries, with the metal and the totals after them
abbrev NetRouted : Job → (k : ℕ) → Standing → Totals → Routed → Type 0
NetRouted j k s totals r = (d : NetEntries j k s r.entries r.metal) × (net_totals d totals ≡ r.totals)

-- what was routed of the nets from the k-th on is their entries, with the metal and the totals after them
pub record NetsRouted (j : Job) (k : ℕ) (nets : List Net) (metal : List (List ℕ)) (totals : Totals) (r : Routed) : Type 0 where
  pub entries : JobEntries j k nets metal r.entries
  pub left : job_metal entries ≡ r.metal
  pub ends : job_totals entries totals ≡ r.totals

-- ---- the entries of a good job

module _ {j : Job} (good-j : GoodJob j) where
  -- its layers are good
  tech : GoodTech (tech_of j)
  tech = good_tech good-j

  -- what follows a standing of net k is so, where tree and pins are apart and at most n pins are unjoined
  NetFrom : (k n : ℕ) → (Standing → Totals → Routed) → Type 0
  NetFrom k n rest =
      (s : Standing) (totals : Totals) → Stands (tech_of j) s → length s.unjoined ≤ n → NetRouted j k s totals (rest s totals)

  -- a record and those that follow it
  record_entries : (k n : ℕ) (s : Standing) (totals : Totals) (rest : Standing → Totals → Routed) (r : Record) → Stands (tech_of j) s
      → (s.unjoined ≡ [] → ⊥) → length s.unjoined ≤ suc n
      → join_of (tech_of j) (view_of j k s.metal) s.tree s.unjoined ≡ r → NetFrom k n rest
      → NetRouted j k s totals (by_record j k s totals rest r)
  unfolding by_record with_entry after_join NetFrom joined_by net_totals
  record_entries k n s totals rest none apart some few is follows = (gave_up some refl refl, refl)
  record_entries k n s totals rest (join start moves cost) apart some few is follows =
      let view = view_of j k s.metal in
      let route = join_route tech view apart is in
      let fits = join_fits tech view apart is in
      let w = route_walk tech view (apart.on_grid start route.on_tree) route in
      let fewer = without_shorter w.last.vertex s.unjoined w.ends in
      let after = joined_by k s w.last.vertex w.made in
      let left = joined_apart k s tech apart route w.does in
      let (others, ends) = follows after (with_join totals w.made) left (omega arith) in
      rw w.does (
        joins
            (record { route = route; count = fits.0; priced = fits.1; last = w.last; made = w.made; walked = w.does; stands = refl })
            refl
            others,
        ends,
      )

  -- the records of a net
  net_entries : (k n : ℕ) → NetFrom k n (route_net j k n)
  unfolding route_net NetFrom net_totals
  net_entries k zero s totals apart few = (all_joined (none_left s.unjoined few) refl, refl)
  net_entries k (suc n) s totals apart few = by s.unjoined refl (net_entries k n)
    where
      routed : List ℕ → Routed
      routed u =
          elim u as (λ _. Routed) [
            | [] ↦ record { entries = []; metal = s.metal; totals = with_net totals }
            | p ∷ ps ↦ by_record j k s totals (route_net j k n) (join_of (tech_of j) (view_of j k s.metal) s.tree (p ∷ ps))
          ]

      by : (u : List ℕ) → s.unjoined ≡ u → NetFrom k n (route_net j k n) → NetRouted j k s totals (routed u)
      by [] e follows = (all_joined e refl, refl)
      by (p ∷ ps) e follows =
          record_entries k n s totals (route_net j k n) (join_of (tech_of j) (view_of j k s.metal) s.tree (p ∷ ps)) apart
          (λ no. let same : p ∷ ps ≡ [] = sym e ∙ no in let z : ◌≡◌ {A = ℕ} 0 1 = cc in omega arith) few (rw e) follows

  -- the records of some nets
  nets_entries : (k : ℕ) (nets : List Net) (metal : List (List ℕ)) (totals : Totals)
      → All (λ net. (m : List (List ℕ)) → Stands (tech_of j) (begun (pins_of j.grid net) m)) nets
      → NetsRouted j k nets metal totals (route_nets j k nets metal totals)
  unfolding route_nets All NetFrom job_metal job_totals
  nets_entries k [] metal totals h = record { entries = no_nets; left = refl; ends = refl }
  nets_entries k (net ∷ nets) metal totals h =
      let pins = pins_of j.grid net in
      let this = route_net j k (length pins) (begun pins metal) totals in
      let (own, ends) = net_entries k (length pins) (begun pins metal) totals (h.0 metal) (begun-length pins metal) in
      let rest = nets_entries (suc k) nets this.metal this.totals h.1 in
      record { entries = next_net own rest.entries refl; left = rest.left; ends = ap (job_totals rest.entries) ends ∙ rest.ends }

  -- routing's entries are the nets' in order, each legal against what the earlier ones make, with its metal
  -- and totals after them
  pub routing_entries : NetsRouted j 0 j.nets (metal_at_first j) no_totals (routing j)
  unfolding routing
  routing_entries = nets_entries 0 j.nets (metal_at_first j) no_totals (nets_apart good-j)

  -- ---- its plan

  -- routing's plan is legal
  pub routing_legal : LegalPlan j (plan_of j)
  unfolding plan_of
  routing_legal = record { entries = (routing j).entries; nets = routing_entries.entries; bits = refl }

  -- routing's plan is read as what routing gives: its entries, its metal and its totals
  pub routing_read_lem : read_plan j (plan_of j) ≡ good (routing j)
  unfolding routing_legal plan_of
  routing_read_lem =
      plan_read j (plan_of j) good-j (plan_below j.grid (routing j).entries) routing_legal
      ∙ (λ i. good (record { entries = (routing j).entries; metal = routing_entries.left i; totals = routing_entries.ends i }))

  -- every record in routing's plan is cheapest
  pub routing_plan_cheapest : Cheapest j (plan_of j)
  unfolding routing_legal
  routing_plan_cheapest = record { plan = routing_legal; cheapest = routing_cheapest good-j }

  -- every record in routing's plan is the join that the ties name
  pub routing_plan_by_ties : ByTies j (plan_of j)
  unfolding routing_legal
  routing_plan_by_ties = record { plan = routing_legal; first = routing_first good-j }
