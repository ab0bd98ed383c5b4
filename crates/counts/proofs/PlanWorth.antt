-- The counts of a plan that is read as good cost what the plan does.
--     counts_append                      the counts of two lists of entries
--     Costs, join_costs, net_costs, nets_costs, plan_costs
--                                        counts have their places and cost the difference of two totals:
--                                        those of a join, of a net, of all nets, and of an accepted plan
--     plan_placed, plan_worth            so an accepted plan's counts have their places, and cost what it
--                                        does
use Prim.Native.Nat.{ℕ, ◌+◌, ◌<◌}
use mathlib.Core.Path.{◌≡◌, refl, ap}
use mathlib.Core.List.{List, [], ◌∷◌, ◌++◌, append_assoc, flat_map}
use native.Mathlib.Omega.{arith}
use lib.ListN.{replicate}
use Rattle.bits.specs.Bits.{bits_of}
use Rattle.bits.proofs.Laws.{bits_of_bits}
use Rattle.job.specs.Lists.{All}
use Rattle.job.specs.Job.{Net, Job}
use Rattle.job.specs.Good.{GoodJob}
use Rattle.job.specs.Reading.{good}
use Rattle.job.proofs.Tests.{tests}
use Rattle.job.proofs.Binds.{steps as binds}
use Rattle.rules.specs.Views.{pins_of, view_of}
use Rattle.rules.specs.Prices.{Tech, tech_of}
use Rattle.rules.specs.Walks.{start_at}
use Rattle.rules.specs.Standings.{Standing, metal_at_first, begun}
use Rattle.rules.specs.Apart.{Stands}
use Rattle.rules.specs.Joins.{join}
use Rattle.rules.specs.Routings.{Entry, Totals, no_totals, with_join, with_net, Routed}
use Rattle.rules.proofs.Techs.{good_tech}
use Rattle.rules.proofs.Places.{start_good}
use Rattle.rules.proofs.Laid.{all_append}
use Rattle.rules.proofs.Standing.{nets_apart}
use Rattle.plan.specs.Reading.{read_plan}
use Rattle.plan.specs.Legal.{LegalJoin, NetEntries, all_joined, gave_up, joins, JobEntries, no_nets, next_net}
use Rattle.plan.proofs.Entries.{legal_apart}
use Rattle.plan.proofs.NetRead.{net_totals, read_to}
use Rattle.plan.proofs.NetsRead.{nets_good, job_metal, job_totals, nets_read}
use Rattle.counts.specs.Counts.{report_need, Count, counted}
use Rattle.counts.specs.Counts.{walked_counts, record_counts, plan_counts}
use Rattle.counts.specs.Counts.{report_prices, worth}
use Rattle.counts.proofs.Adding.{Placed, walk-placed}
use Rattle.counts.proofs.Worth.{worth_empty, counts_worth, counts_worth_append, worth-counted, cost_of}
use Rattle.counts.proofs.MoveWorth.{walk-worth, walk_inside}

-- the counts of two lists of entries
pub counts_append : (j : Job) (xs ys : List Entry) → plan_counts j (xs ++ ys) ≡ plan_counts j xs ++ plan_counts j ys
unfolding flat_map
counts_append j [] ys = refl
counts_append j (x ∷ xs) ys = rw (counts_append j xs ys, append_assoc)

-- counts have their places, and cost what is between two totals
record Costs (t : Tech) (cs : List Count) (from to : Totals) : Type 0 where
  pub placed : Placed cs
  pub cost : from.cost + cost_of t cs ≡ to.cost

-- those of two lists
costs_both : {t : Tech} {xs ys : List Count} {a b c : Totals} → Costs t xs a b → Costs t ys b c → Costs t (xs ++ ys) a c
costs_both {t} {xs} {ys} one two =
    record {
      placed = all_append (λ (c : Count). c.at < report_need) xs ys one.placed two.placed;
      cost = omega (arith, one.cost, two.cost, counts_worth_append (report_prices t) xs ys);
    }

-- none
costs_none : {t : Tech} {a b : Totals} → a.cost ≡ b.cost → Costs t [] a b
unfolding All counts_worth
costs_none same = record { placed = tt; cost = omega (arith, same) }

module _ {j : Job} (good-j : GoodJob j) where
  -- of a legal join
  join_costs : {k : ℕ} {s after : Standing} {start cost : ℕ} {moves : List ℕ} (l : LegalJoin j k s start moves cost after) (totals : Totals)
      → Stands (tech_of j) s → Costs (tech_of j) (record_counts (tech_of j) (view_of j k s.metal) (join start moves cost)) totals (with_join totals l.made)
  unfolding record_counts walked_counts with_join start_at
  join_costs {k} {s} {start = start} {moves = moves} l totals stands =
      let t = tech_of j in
      let tech = good_tech good-j in
      let view = view_of j k s.metal in
      let on = stands.on_grid start l.route.on_tree in
      let ok = start_good {t = t} on in
      rw l.walked (record {
        placed = walk-placed view l.made tech.grid on (walk_inside tech view (start_at start) moves ok l.walked);
        cost = ap (λ (c : ℕ). totals.cost + c) (walk-worth tech view (start_at start) moves ok l.walked);
      })

  -- of a net's entries
  net_costs : {k : ℕ} {s : Standing} {es : List Entry} {metal : List (List ℕ)} (d : NetEntries j k s es metal) (totals : Totals) → Stands (tech_of j) s
      → Costs (tech_of j) (plan_counts j es) totals (net_totals d totals)
  unfolding net_totals flat_map with_net record_counts
  net_costs (all_joined all left) totals stands = costs_none refl
  net_costs (gave_up some is left) totals stands = rw is (costs_none refl)
  net_costs {k} (joins {s = s} l is rest) totals stands =
      rw is (costs_both (join_costs l totals stands) (net_costs rest (with_join totals l.made) (legal_apart good-j k s stands l)))

  -- of all nets' entries
  nets_costs : {k : ℕ} {nets : List Net} {metal : List (List ℕ)} {es : List Entry} (d : JobEntries j k nets metal es) (totals : Totals)
      → All (λ net. (m : List (List ℕ)) → Stands (tech_of j) (begun (pins_of j.grid net) m)) nets
      → Costs (tech_of j) (plan_counts j es) totals (job_totals d totals)
  unfolding job_totals flat_map All
  nets_costs no_nets totals begin = costs_none refl
  nets_costs (next_net {metal = metal} {own = own} {others = others} n r is) totals begin =
      rw (is, counts_append j own others) (costs_both (net_costs n totals (begin.0 metal)) (nets_costs r (net_totals n totals) begin.1))

  -- of an accepted plan
  plan_costs : (bytes : List ℕ) (r : Routed) → read_plan j bytes ≡ good r → Costs (tech_of j) (plan_counts j r.entries) no_totals r.totals
  unfolding read_plan
  plan_costs bytes r = simp (binds, tests) (λ (all, reads, (tail, same)).
      let B = bits_of bytes in
      let bits = bits_of_bits bytes in
      let begin = nets_apart good-j in
      let read = nets_good B bits good-j 0 j.nets (metal_at_first j) no_totals 0 all begin reads in
      let again = nets_read B bits good-j read.entries begin no_totals 0 read.stand in
      let one : read_to j.grid 0 all.entries (job_metal read.entries) (job_totals read.entries no_totals) ≡ all = cc in
      let ends : job_totals read.entries no_totals ≡ all.totals = λ i. (one i).totals in
      rw (← same) (rw ends at (nets_costs read.entries no_totals begin)))

  -- the counts of an accepted plan have their places
  pub plan_placed : (bytes : List ℕ) (r : Routed) → read_plan j bytes ≡ good r → Placed (plan_counts j r.entries)
  plan_placed bytes r e = (plan_costs bytes r e).placed

-- "counts times that job's prices", a promise to readers of a report: where a good job's plan is accepted,
-- its counts in an empty report, each times its price, come to the plan's cost
pub plan_worth : (j : Job) (bytes : List ℕ) → GoodJob j → (r : Routed) → read_plan j bytes ≡ good r
    → worth (report_prices (tech_of j)) (counted (plan_counts j r.entries) (replicate report_need 0)) ≡ r.totals.cost
unfolding no_totals
plan_worth j bytes good-j r e =
    let costs = plan_costs good-j bytes r e in
    let ps = report_prices (tech_of j) in
    omega (arith, worth-counted ps (plan_counts j r.entries) (replicate report_need 0) costs.placed, worth_empty ps report_need, costs.cost)
