-- The joins that the ties name are a job's only plan of them: it is routing's.
--     ties_only     the law
use Prim.Native.Nat.{ℕ, zero, suc, ◌≤◌}
use native.Mathlib.Omega.{arith}
use mathlib.Core.Path.{◌≡◌, refl, sym, ap, ◌∙◌}
use mathlib.Core.List.{List, [], ◌∷◌, ◌++◌, map}
use lib.ListN.{length}
use Rattle.job.specs.Lists.{All}
use Rattle.job.specs.Job.{Net, Job}
use Rattle.job.specs.Good.{GoodJob}
use Rattle.rules.specs.Views.{pins_of, view_of}
use Rattle.rules.specs.Prices.{tech_of}
use Rattle.rules.specs.Walks.{Walked}
use Rattle.rules.specs.Joins.{Record, join, none, join_of}
use Rattle.rules.specs.Standings.{Standing, begun}
use Rattle.rules.specs.Apart.{Stands}
use Rattle.rules.specs.Routings.{Entry, Totals, no_totals, with_join, Routed, with_entry, after_join, by_record, route_net, route_nets, routing}
use Rattle.rules.proofs.Techs.{good_tech}
use Rattle.rules.proofs.Joins.{join_only}
use Rattle.rules.proofs.Standing.{nets_apart}
use Rattle.rules.proofs.Routes.{route_all, route_more}
use Rattle.plan.specs.Layout.{plan_bytes, plan_of}
use Rattle.plan.specs.Legal.{LegalJoin, NetEntries, all_joined, gave_up, joins, JobEntries, no_nets, next_net}
use Rattle.plan.specs.Claim.{ByTies}
use Rattle.plan.proofs.Unjoined.{begun-length, some_left}
use Rattle.plan.proofs.Entries.{all_both, legal_apart, legal_fewer}
use Rattle.plan.proofs.Records.{First}

module _ {j : Job} (good-j : GoodJob j) where
  -- what is routed has these entries, and leaves this metal
  abbrev Routes : Routed → List Entry → (metal : List (List ℕ)) → Type 0
  Routes r es metal = (r.entries ≡ es) × (r.metal ≡ metal)

  -- a record that the ties name is the one that is computed
  computed : (k : ℕ) (s : Standing) (r : Record) {e : Entry} → Stands (tech_of j) s → e ≡ record { net = k; before = s; written = r }
      → First good-j e → join_of (tech_of j) (view_of j k s.metal) s.tree s.unjoined ≡ r
  computed k s r apart is named = sym (join_only (good_tech good-j) _ apart (rw is at named))

  -- one record and those that follow it
  one_routes : (k n : ℕ) (s : Standing) (totals : Totals) {r : Record} → (s.unjoined ≡ [] → ⊥)
      → join_of (tech_of j) (view_of j k s.metal) s.tree s.unjoined ≡ r
      → route_net j k (suc n) s totals ≡ by_record j k s totals (route_net j k n) r
  one_routes k n s totals some is = route_more j k n s totals some ∙ ap (by_record j k s totals (route_net j k n)) is

  -- a join, then what follows it
  join_routes : (k : ℕ) (s : Standing) (totals : Totals) (rest : Standing → Totals → Routed) {after : Standing} {start cost : ℕ} {moves : List ℕ}
      (l : LegalJoin j k s start moves cost after)
      → by_record j k s totals rest (join start moves cost)
      ≡ with_entry (record { net = k; before = s; written = join start moves cost }) (rest after (with_join totals l.made))
  unfolding by_record after_join
  join_routes k s totals rest {start = start} {cost = cost} {moves = moves} l =
      let e : Entry = record { net = k; before = s; written = join start moves cost } in
      ap (λ (w : Walked). with_entry e (after_join k s totals rest w)) l.walked
      ∙ ap (λ (x : Standing). with_entry e (rest x (with_join totals l.made))) (sym l.stands)

  -- the entries of a net
  net_routes : {k : ℕ} {s : Standing} {es : List Entry} {metal : List (List ℕ)} → NetEntries j k s es metal → All (First good-j) es → Stands (tech_of j) s
      → (n : ℕ) → length s.unjoined ≤ n → (totals : Totals) → Routes (route_net j k n s totals) es metal
  unfolding All by_record with_entry
  net_routes (all_joined {s = s} all left) h apart n few totals = rw (route_all j _ n s totals all) (refl, sym left)
  net_routes (gave_up {s = s} some is left) h apart zero few totals = absurd (omega (arith, some_left s.unjoined some))
  net_routes {k} (gave_up {s = s} some is left) h apart (suc n) few totals =
      rw (one_routes k n s totals some (computed k s none apart is h.0)) (ap (λ (e : Entry). e ∷ []) (sym is), sym left)
  net_routes {k} (joins {s = s} l is rest) h apart zero few totals = absurd (omega (arith, legal_fewer good-j k s apart l))
  net_routes {k} (joins {s = s} {start = start} {cost = cost} {moves = moves} {es = es} l is rest) h apart (suc n) few totals =
      let fewer = legal_fewer good-j k s apart l in
      let some : s.unjoined ≡ [] → ⊥ = λ e. omega (arith, ap length e) in
      let (same, left) = net_routes rest h.1 (legal_apart good-j k s apart l) n (omega arith) (with_join totals l.made) in
      rw (one_routes k n s totals some (computed k s (join start moves cost) apart is h.0) ∙ join_routes k s totals (route_net j k n) l)
      (λ i. sym is i ∷ same i, left)

  -- the entries of some nets
  nets_route : {k : ℕ} {nets : List Net} {metal : List (List ℕ)} {es : List Entry} → JobEntries j k nets metal es
      → All (λ net. (m : List (List ℕ)) → Stands (tech_of j) (begun (pins_of j.grid net) m)) nets → All (First good-j) es → (totals : Totals)
      → (route_nets j k nets metal totals).entries ≡ es
  unfolding route_nets All
  nets_route no_nets apart h totals = refl
  nets_route {k} (next_net {net = net} {nets = nets} {metal = metal} {own = own} {others = others} n r is) apart h totals =
      let (mine, theirs) = all_both (First good-j) own others (rw is at h) in
      let pins = pins_of j.grid net in
      let this = route_net j k (length pins) (begun pins metal) totals in
      let (same, left) = net_routes n mine (apart.0 metal) (length pins) (begun-length pins metal) totals in
      let rest = nets_route r apart.1 theirs this.totals in
      let after : (route_nets j (suc k) nets this.metal this.totals).entries ≡ others =
      ap (λ (m : List (List ℕ)). (route_nets j (suc k) nets m this.totals).entries) left ∙ rest in
      (λ i. same i ++ after i) ∙ sym is

  -- a plan of the joins that the ties name is the plan that routing makes
  pub ties_only : (bytes : List ℕ) → ByTies j bytes → bytes ≡ plan_of j
  unfolding plan_of routing
  ties_only bytes ties =
      ties.plan.bits ∙ ap (λ (es : List Entry). plan_bytes j.grid (map (λ (e : Entry). e.written) es))
      (sym (nets_route ties.plan.nets (nets_apart good-j) ties.first no_totals))
