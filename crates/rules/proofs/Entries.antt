-- The records that routing writes: before each stand a tree and unjoined pins that are apart, and each is the
-- join of what stands.
--     Written, all_written     of one record, and of all
use Prim.Native.Nat.{ℕ, zero, suc}
use mathlib.Core.Path.{◌≡◌, refl, sym}
use mathlib.Core.List.{List, [], ◌∷◌}
use lib.ListN.{length}
use Rattle.job.specs.Lists.{All}
use Rattle.job.specs.Job.{Net, Job}
use Rattle.job.specs.Good.{GoodJob}
use Rattle.rules.specs.Views.{pins_of, view_of}
use Rattle.rules.specs.Prices.{tech_of}
use Rattle.rules.specs.Walks.{Walked, stuck, walked, start_at, walk}
use Rattle.rules.specs.Joins.{Record, join, none, join_of}
use Rattle.rules.specs.Standings.{Standing, metal_at_first, begun, joined_by}
use Rattle.rules.specs.Apart.{Stands}
use Rattle.rules.specs.Routings.{Entry, Totals, no_totals, with_join, with_net, Routed, with_entry, after_join, by_record, route_net, route_nets, routing}
use Rattle.rules.proofs.Techs.{good_tech}
use Rattle.rules.proofs.Laid.{all_append}
use Rattle.rules.proofs.Joins.{join_route}
use Rattle.rules.proofs.Standing.{nets_apart, joined_apart}

-- what stands before a record is apart, and the record is the join of it
pub record Written (j : Job) (e : Entry) : Type 0 where
  pub apart : Stands (tech_of j) e.before
  pub is : e.written ≡ join_of (tech_of j) (view_of j e.net e.before.metal) e.before.tree e.before.unjoined

module _ {j : Job} (good : GoodJob j) where
  -- the join of a standing
  abbrev join_in : (k : ℕ) → Standing → Record
  join_in k s = join_of (tech_of j) (view_of j k s.metal) s.tree s.unjoined

  -- a record and those that follow it
  record_written : (k : ℕ) (s : Standing) (totals : Totals) (rest : Standing → Totals → Routed) (r : Record) → Stands (tech_of j) s → join_in k s ≡ r
      → ((s' : Standing) (totals' : Totals) → Stands (tech_of j) s' → All (Written j) (rest s' totals').entries)
      → All (Written j) (by_record j k s totals rest r).entries
  unfolding by_record with_entry after_join All
  record_written k s totals rest none apart e after = (record { apart = apart; is = sym e }, tt)
  record_written k s totals rest (join start moves cost) apart e after =
      (record { apart = apart; is = sym e }, by (walk (tech_of j) (view_of j k s.metal) (start_at start) moves) refl)
    where
      by : (w : Walked) → walk (tech_of j) (view_of j k s.metal) (start_at start) moves ≡ w → All (Written j) (after_join k s totals rest w).entries
      by stuck is = tt
      by (walked last made) is =
          after (joined_by k s last.vertex made) (with_join totals made)
          (joined_apart k s (good_tech good) apart (join_route (good_tech good) (view_of j k s.metal) apart e) is)

  -- the records of a net
  net_written : (k n : ℕ) (s : Standing) (totals : Totals) → Stands (tech_of j) s → All (Written j) (route_net j k n s totals).entries
  unfolding route_net All
  net_written k zero s totals apart = tt
  net_written k (suc n) s totals apart = by s.unjoined refl (net_written k n)
    where
      by : (u : List ℕ) → s.unjoined ≡ u
          → ((s' : Standing) (totals' : Totals) → Stands (tech_of j) s' → All (Written j) (route_net j k n s' totals').entries)
          → All (Written j) (elim u as (λ _. Routed) [
            | [] ↦ record { entries = []; metal = s.metal; totals = with_net totals }
            | p ∷ ps ↦ by_record j k s totals (route_net j k n) (join_of (tech_of j) (view_of j k s.metal) s.tree (p ∷ ps))
          ]).entries
      by [] e after = tt
      by (p ∷ ps) e after = record_written k s totals (route_net j k n) (join_of (tech_of j) (view_of j k s.metal) s.tree (p ∷ ps)) apart (rw e) after

  -- the records of some nets
  nets_written : (k : ℕ) (nets : List Net) (metal : List (List ℕ)) (totals : Totals)
      → All (λ net. (m : List (List ℕ)) → Stands (tech_of j) (begun (pins_of j.grid net) m)) nets
      → All (Written j) (route_nets j k nets metal totals).entries
  unfolding route_nets All
  nets_written k [] metal totals h = tt
  nets_written k (net ∷ nets) metal totals h =
      let pins = pins_of j.grid net in
      let this = route_net j k (length pins) (begun pins metal) totals in
      all_append (Written j) this.entries (route_nets j (suc k) nets this.metal this.totals).entries
      (net_written k (length pins) (begun pins metal) totals (h.0 metal)) (nets_written (suc k) nets this.metal this.totals h.1)

  -- every record that routing writes
  pub all_written : All (Written j) (routing j).entries
  unfolding routing
  all_written = nets_written 0 j.nets (metal_at_first j) no_totals (nets_apart good)
