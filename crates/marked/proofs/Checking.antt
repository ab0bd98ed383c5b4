-- Routing a job by tables of costs that are given: each join by the next table, if the table passes the test.
--     Checked            what routing by tables answers
--     net_by, nets_by    a net, and all nets from the k-th on
--     written            the records, where every table passed and none is left
use Prim.Native.Nat.{ℕ, zero, suc}
use mathlib.Core.List.{List, [], ◌∷◌, ◌++◌}
use mathlib.Core.Bool.{true, false}
use lib.ListN.{length}
use Rattle.job.specs.Job.{Net, Job}
use Rattle.rules.specs.Views.{pins_of, view_of}
use Rattle.rules.specs.Prices.{tech_of}
use Rattle.rules.specs.Walks.{Walked, stuck, walked, start_at, walk}
use Rattle.rules.specs.Standings.{Standing, metal_at_first, begun, joined_by}
use Rattle.rules.specs.Joins.{Record, join, none}
use Rattle.rules.specs.Tabled.{join_by}
use Rattle.rules.proofs.Certificates.{table_cost, certified}

-- a row for each vertex, and in it an entry for each segment
abbrev pub Costs : Type 0
Costs = List (List ℕ)

-- a table is missing or failed; or the metal at the end, the tables that are left, and the records
pub data Checked : Type 0 where
  failed : Checked
  passed : (metal : List (List ℕ)) (left : List Costs) (records : List Record) → Checked

-- records before those that follow them
unfoldable pub with_records : List Record → Checked → Checked
with_records rs failed = failed
with_records rs (passed metal left others) = passed metal left (rs ++ others)

-- after a join's moves
unfoldable pub after_moves : (k : ℕ) → Standing → (List Costs → Standing → Checked) → (left : List Costs) → Walked → Checked
after_moves k s rest left stuck = passed s.metal left []
after_moves k s rest left (walked last made) = rest left (joined_by k s last.vertex made)

-- after a record
unfoldable pub after_record : Job → (k : ℕ) → Standing → (List Costs → Standing → Checked) → (left : List Costs) → Record → Checked
after_record j k s rest left none = passed s.metal left (none ∷ [])
after_record j k s rest left (join start moves cost) =
    with_records (join start moves cost ∷ []) (after_moves k s rest left (walk (tech_of j) (view_of j k s.metal) (start_at start) moves))

-- a join by the next table
unfoldable pub by_table : Job → (k : ℕ) → Standing → (unjoined : List ℕ) → (List Costs → Standing → Checked) → List Costs → Checked
by_table j k s unjoined rest [] = failed
by_table j k s unjoined rest (costs ∷ left) =
    elim (certified (tech_of j) (view_of j k s.metal) unjoined costs) [
      | true ↦ after_record j k s rest left (join_by (tech_of j) (view_of j k s.metal) s.tree unjoined (table_cost (tech_of j) costs))
      | false ↦ failed
    ]

-- a net, at most n joins
unfoldable pub net_by : Job → (k n : ℕ) → List Costs → Standing → Checked
net_by j k zero left s = passed s.metal left []
net_by j k (suc n) left s = elim s.unjoined [ [] ↦ passed s.metal left [] | p ∷ ps ↦ by_table j k s (p ∷ ps) (net_by j k n) left ]

-- the nets that follow one
unfoldable pub then_nets : (List Costs → List (List ℕ) → Checked) → Checked → Checked
then_nets next failed = failed
then_nets next (passed metal left records) = with_records records (next left metal)

-- the nets from the k-th on
unfoldable pub nets_by : Job → (k : ℕ) → List Net → List Costs → (metal : List (List ℕ)) → Checked
nets_by j k [] left metal = passed metal left []
nets_by j k (net ∷ nets) left metal =
    let pins = pins_of j.grid net in
    then_nets (nets_by j (suc k) nets) (net_by j k (length pins) left (begun pins metal))

-- the records, where no table is left over
pub data Answer : Type 0 where
  wrong : Answer
  right : List Record → Answer

unfoldable pub answer_of : Checked → Answer
answer_of failed = wrong
answer_of (passed metal [] records) = right records
answer_of (passed metal (costs ∷ left) records) = wrong

-- a job
unfoldable pub written : Job → List Costs → Answer
written j costs = answer_of (nets_by j 0 j.nets costs (metal_at_first j))
