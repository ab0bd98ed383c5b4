-- Routing by tables that pass their tests is routing.
--     Agrees                 the records and the metal are those of routing
--     net_agrees             of a net
--     nets_agrees            of all nets from the k-th on
--     written_routing        of a job
use Prim.Native.Nat.{ℕ, zero, suc}
use mathlib.Core.Path.{◌≡◌, refl, ap, subst, ◌∙◌}
use mathlib.Core.List.{List, [], ◌∷◌, ◌++◌, map, map-append}
use mathlib.Core.Bool.{Bool, true, false}
use native.Mathlib.Omega.{arith}
use lib.ListN.{length}
use Rattle.job.specs.Job.{Net, Job}
use Rattle.rules.specs.Views.{pins_of, view_of}
use Rattle.rules.specs.Prices.{tech_of}
use Rattle.rules.specs.Walks.{Walked, stuck, walked, start_at, walk}
use Rattle.rules.specs.Standings.{Standing, metal_at_first, begun, joined_by}
use Rattle.rules.specs.Joins.{Record, join, none, join_of}
use Rattle.rules.specs.Tabled.{join_by}
use Rattle.rules.specs.Places.{GoodTech}
use Rattle.rules.specs.Routings.{Entry, Totals, no_totals, with_join, Routed, with_entry, after_join, by_record, route_net, route_nets, routing}
use Rattle.rules.proofs.Certificates.{table_cost, certified, certified_join}
use Rattle.marked.proofs.Checking.{Costs, Checked, failed, passed, with_records, after_moves, after_record, by_table, net_by, then_nets, nets_by}
use Rattle.marked.proofs.Checking.{right, answer_of, written}

-- the records of entries
abbrev pub records_of : List Entry → List Record
records_of es = map (λ (e : Entry). e.written) es

-- where every table passed, the records and the metal are those of routing
abbrev pub Agrees : Checked → Routed → Type 0
Agrees failed r = Unit
Agrees (passed metal left records) r = (records_of r.entries ≡ records) × (r.metal ≡ metal)

-- with one record more
entry_agrees : (c : Checked) (e : Entry) (r : Routed) → Agrees c r → Agrees (with_records (e.written ∷ []) c) (with_entry e r)
unfolding with_records with_entry
entry_agrees failed e r h = tt
entry_agrees (passed metal left records) e r h = (ap (λ (rs : List Record). e.written ∷ rs) h.0, h.1)

module _ (j : Job) (good : GoodTech (tech_of j)) where
  module _ (k : ℕ) (s : Standing) (totals : Totals) (rest : List Costs → Standing → Checked) (route : Standing → Totals → Routed)
      (h : (left : List Costs) (s : Standing) (totals : Totals) → Agrees (rest left s) (route s totals)) where
    -- after a join's moves
    moves_agree : (left : List Costs) (w : Walked) → Agrees (after_moves k s rest left w) (after_join k s totals route w)
    unfolding after_moves after_join
    moves_agree left stuck = (refl, refl)
    moves_agree left (walked last made) = h left (joined_by k s last.vertex made) (with_join totals made)

    -- after a record
    record_agrees : (left : List Costs) (r : Record) → Agrees (after_record j k s rest left r) (by_record j k s totals route r)
    unfolding after_record by_record
    record_agrees left none = (refl, refl)
    record_agrees left (join start moves cost) =
        entry_agrees _ (record { net = k; before = s; written = join start moves cost }) _
        (moves_agree left (walk (tech_of j) (view_of j k s.metal) (start_at start) moves))

    -- after a join by the next table
    table_agrees : (left : List Costs) (unjoined : List ℕ)
        → Agrees (by_table j k s unjoined rest left) (by_record j k s totals route (join_of (tech_of j) (view_of j k s.metal) s.tree unjoined))
    unfolding by_table
    table_agrees [] unjoined = tt
    table_agrees (costs ∷ left) unjoined = by (certified (tech_of j) (view_of j k s.metal) unjoined costs) refl
      where
        by : (b : Bool) → certified (tech_of j) (view_of j k s.metal) unjoined costs ≡ b
            → Agrees (by_table j k s unjoined rest (costs ∷ left)) (by_record j k s totals route (join_of (tech_of j) (view_of j k s.metal) s.tree unjoined))
        by true e =
            rw (e, by_table, ← certified_join (tech_of j) (view_of j k s.metal) s.tree unjoined costs good (rw e tt))
            (record_agrees left (join_by (tech_of j) (view_of j k s.metal) s.tree unjoined (table_cost (tech_of j) costs)))
        by false e = rw (e, by_table) tt

  -- of a net
  net_agrees : (k n : ℕ) (left : List Costs) (s : Standing) (totals : Totals) → Agrees (net_by j k n left s) (route_net j k n s totals)
  unfolding net_by route_net
  net_agrees k zero left s totals = (refl, refl)
  net_agrees k (suc n) left s totals = by s.unjoined refl (net_agrees k n)
    where
      by : (ps : List ℕ) → s.unjoined ≡ ps
          → ((left : List Costs) (s : Standing) (totals : Totals) → Agrees (net_by j k n left s) (route_net j k n s totals))
          → Agrees (net_by j k (suc n) left s) (route_net j k (suc n) s totals)
      by [] e h = rw (e, net_by, route_net) (refl, refl)
      by (p ∷ ps) e h = rw (e, net_by, route_net) (table_agrees k s totals (net_by j k n) (route_net j k n) h left (p ∷ ps))

  -- with the nets that follow
  append_agrees : (es : List Entry) (rs : List Record) (c : Checked) (r : Routed) → records_of es ≡ rs → Agrees c r
      → Agrees (with_records rs c) (record { entries = es ++ r.entries; metal = r.metal; totals = r.totals })
  unfolding with_records
  append_agrees es rs failed r e h = tt
  append_agrees es rs (passed metal left records) r e h = (map-append _ es r.entries ∙ (λ i. e i ++ h.0 i), h.1)

  -- of all nets from the k-th on
  nets_agrees : (nets : List Net) (k : ℕ) (left : List Costs) (metal : List (List ℕ)) (totals : Totals)
      → Agrees (nets_by j k nets left metal) (route_nets j k nets metal totals)
  unfolding nets_by route_nets then_nets
  nets_agrees [] k left metal totals = (refl, refl)
  nets_agrees (net ∷ nets) k left metal totals =
      let pins = pins_of j.grid net in
      by (net_by j k (length pins) left (begun pins metal)) (route_net j k (length pins) (begun pins metal) totals)
      (net_agrees k (length pins) left (begun pins metal) totals) (nets_agrees nets)
    where
      by : (c : Checked) (this : Routed) → Agrees c this
          → ((k : ℕ) (left : List Costs) (metal : List (List ℕ)) (totals : Totals) → Agrees (nets_by j k nets left metal) (route_nets j k nets metal totals))
          → Agrees (then_nets (nets_by j (suc k) nets) c) (record {
            entries = this.entries ++ (route_nets j (suc k) nets this.metal this.totals).entries;
            metal = (route_nets j (suc k) nets this.metal this.totals).metal;
            totals = (route_nets j (suc k) nets this.metal this.totals).totals;
          })
      by failed this a h = tt
      by (passed after left records) this a h =
          append_agrees this.entries records _ (route_nets j (suc k) nets this.metal this.totals) a.0
          (subst (λ (m : List (List ℕ)). Agrees (nets_by j (suc k) nets left m) (route_nets j (suc k) nets this.metal this.totals)) a.1
          (h (suc k) left this.metal this.totals))

-- the records of an answer
answer_agrees : (c : Checked) (r : Routed) (records : List Record) → Agrees c r → answer_of c ≡ right records → records_of r.entries ≡ records
unfolding answer_of
answer_agrees failed r records a e = let z : ◌≡◌ {A = ℕ} 0 1 = cc in absurd (omega arith)
answer_agrees (passed metal [] rs) r records a e = cc a.0
answer_agrees (passed metal (costs ∷ left) rs) r records a e = let z : ◌≡◌ {A = ℕ} 0 1 = cc in absurd (omega arith)

-- what routing a job by tables writes, routing it writes
pub written_routing : (j : Job) (costs : List Costs) (records : List Record) → GoodTech (tech_of j) → written j costs ≡ right records
    → records_of (routing j).entries ≡ records
unfolding written routing
written_routing j costs records good e =
    answer_agrees (nets_by j 0 j.nets costs (metal_at_first j)) (routing j) records (nets_agrees j good j.nets 0 costs (metal_at_first j) no_totals) e
