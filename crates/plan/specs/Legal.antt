-- A legal plan, stated without reading: its records, net by net in order, are joins until every pin is
-- joined, or end with one none; each join is legal and rightly priced against what the earlier ones make; and
-- the plan's bytes are the records' bits with zero fill.
-- Specification: section 4.2.
use Rattle.std.specs.Prelude.{ℕ, suc, ◌^◌, ◌<◌, ◌≡◌, List, [], ◌∷◌, ◌++◌, map, length}
use Rattle.job.specs.Job.{Net, Job}
use Rattle.rules.specs.Views.{pins_of, view_of}
use Rattle.rules.specs.Segments.{Place}
use Rattle.rules.specs.Prices.{tech_of}
use Rattle.rules.specs.Steps.{Made}
use Rattle.rules.specs.Walks.{Route, start_at, walked, walk}
use Rattle.rules.specs.Standings.{Standing, metal_at_first, begun, joined_by}
use Rattle.rules.specs.Joins.{join, none}
use Rattle.rules.specs.Routings.{Entry}
use Rattle.plan.specs.Layout.{plan_bytes}

-- a join that is a route at its recorded cost, fits its fields, and what stands after it
pub record LegalJoin (j : Job) (k : ℕ) (s : Standing) (start : ℕ) (moves : List ℕ) (cost : ℕ) (after : Standing) : Type 0 where
  pub route : Route (tech_of j) (view_of j k s.metal) s.tree s.unjoined start moves cost
  pub count : length moves < 2 ^ 20
  pub priced : cost < 2 ^ 40
  pub last : Place
  pub made : List Made
  pub walked : walk (tech_of j) (view_of j k s.metal) (start_at start) moves ≡ walked last made
  pub stands : after ≡ joined_by k s last.vertex made

-- the entries of net k, from what stands to the metal that it leaves: joins until all pins are joined, or one
-- none at the end; before each stands what the earlier ones make
pub data NetEntries (j : Job) (k : ℕ) : Standing → List Entry → List (List ℕ) → Type 0 where
  all_joined : {s : Standing} {metal : List (List ℕ)} → s.unjoined ≡ [] → metal ≡ s.metal → NetEntries j k s [] metal
  gave_up : {s : Standing} {metal : List (List ℕ)} {e : Entry} → (s.unjoined ≡ [] → ⊥) → e ≡ record { net = k; before = s; written = none }
      → metal ≡ s.metal → NetEntries j k s (e ∷ []) metal
  joins : {s after : Standing} {start cost : ℕ} {moves : List ℕ} {e : Entry} {es : List Entry} {metal : List (List ℕ)}
      → LegalJoin j k s start moves cost after → e ≡ record { net = k; before = s; written = join start moves cost }
      → NetEntries j k after es metal → NetEntries j k s (e ∷ es) metal

-- the entries of the nets from the k-th on, in order
pub data JobEntries (j : Job) : (k : ℕ) → List Net → (metal : List (List ℕ)) → List Entry → Type 0 where
  no_nets : {k : ℕ} {metal : List (List ℕ)} → JobEntries j k [] metal []
  next_net : {k : ℕ} {net : Net} {nets : List Net} {metal after : List (List ℕ)} {own others entries : List Entry}
      → NetEntries j k (begun (pins_of j.grid net) metal) own after → JobEntries j (suc k) nets after others → entries ≡ own ++ others
      → JobEntries j k (net ∷ nets) metal entries

pub record LegalPlan (j : Job) (bytes : List ℕ) : Type 0 where
  pub entries : List Entry
  pub nets : JobEntries j 0 j.nets (metal_at_first j) entries
  pub bits : bytes ≡ plan_bytes j.grid (map (λ (e : Entry). e.written) entries)
