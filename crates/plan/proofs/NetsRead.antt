-- Reading the records of all nets: good exactly where their bits stand there and they are all nets' entries.
--     NetsAt, nets_good                   the records of all nets that are read as good
--     job_metal, job_totals, nets_read    the entries of all nets are read, with the metal and the totals
--                                         after them
use Prim.Native.Nat.{ℕ, suc, ◌+◌}
use native.Mathlib.Nat.{add-zero}
use native.Mathlib.Omega.{arith}
use mathlib.Core.Path.{◌≡◌, refl, sym}
use mathlib.Core.Logic.Iff
use mathlib.Core.Logic.{◌↔◌}
use mathlib.Core.List.{List, [], ◌∷◌, ◌++◌, flat_map}
use lib.ListN.{length, length-append}
use Rattle.bits.specs.Puts.{AllBelow}
use Rattle.job.specs.Lists.{All}
use Rattle.job.specs.Job.{Net, Job}
use Rattle.job.specs.Good.{GoodJob}
use Rattle.job.specs.Reading.{good, ◌>>=◌}
use Rattle.job.proofs.Binds.{steps}
use Rattle.job.proofs.TwoWay.Places.{Placed, placed_nil, placed-append}
use Rattle.rules.specs.Views.{pins_of}
use Rattle.rules.specs.Prices.{tech_of}
use Rattle.rules.specs.Standings.{begun}
use Rattle.rules.specs.Apart.{Stands}
use Rattle.rules.specs.Routings.{Entry, Totals}
use Rattle.plan.specs.Entries.{entry_bits}
use Rattle.plan.specs.Reading.{Progress, read_nets}
use Rattle.plan.specs.Legal.{JobEntries, no_nets, next_net}
use Rattle.plan.proofs.Unjoined.{begun-length}
use Rattle.plan.proofs.Entries.{entries_append}
use Rattle.plan.proofs.NetRead.{NetAt, net_good, net_totals, read_to, net_read}

-- the records of nets that were read: their entries, their bits stand there, and the next bit is the one
-- behind them
pub record NetsAt (B : List ℕ) (j : Job) (k : ℕ) (nets : List Net) (metal : List (List ℕ)) (at : ℕ) (p : Progress) : Type 0 where
  pub entries : JobEntries j k nets metal p.entries
  pub stand : Placed B at (entry_bits j.grid p.entries)
  pub next : p.at ≡ at + length (entry_bits j.grid p.entries)

-- the metal after the entries of all nets
unfoldable pub job_metal : {j : Job} {k : ℕ} {nets : List Net} {metal : List (List ℕ)} {es : List Entry} → JobEntries j k nets metal es → List (List ℕ)
job_metal (no_nets {metal = metal}) = metal
job_metal (next_net n r is) = job_metal r

-- and the totals
unfoldable pub job_totals : {j : Job} {k : ℕ} {nets : List Net} {metal : List (List ℕ)} {es : List Entry} → JobEntries j k nets metal es → Totals → Totals
job_totals no_nets totals = totals
job_totals (next_net n r is) totals = job_totals r (net_totals n totals)

module _ (B : List ℕ) (bits : AllBelow 2 B) {j : Job} (good-j : GoodJob j) where
  -- every net begins with its tree and its unjoined pins apart
  abbrev Begin : List Net → Type 0
  Begin nets = All (λ net. (metal : List (List ℕ)) → Stands (tech_of j) (begun (pins_of j.grid net) metal)) nets

  -- two lists of entries, one after the other
  both_placed : (at : ℕ) (xs ys : List Entry) → Placed B at (entry_bits j.grid (xs ++ ys))
      ↔ (Placed B at (entry_bits j.grid xs) × Placed B (at + length (entry_bits j.grid xs)) (entry_bits j.grid ys))
  both_placed at xs ys = simp (entries_append, placed-append) Iff.rfl

  -- how many bits they take
  both_length : (xs ys : List Entry)
      → length (entry_bits j.grid (xs ++ ys)) ≡ length (entry_bits j.grid xs) + length (entry_bits j.grid ys)
  both_length xs ys = simp (entries_append, length-append)

  -- a net's records and those of the nets after it
  next_good : (k : ℕ) (net : Net) (nets : List Net) (metal : List (List ℕ)) (at : ℕ) (this rest p : Progress)
      → NetAt B j k (begun (pins_of j.grid net) metal) at this → NetsAt B j (suc k) nets this.metal this.at rest
      → ◌≡◌ {A = Progress}
      (record { entries = this.entries ++ rest.entries; metal = rest.metal; totals = rest.totals; at = rest.at }) p
      → NetsAt B j k (net ∷ nets) metal at p
  next_good k net nets metal at this rest p one others same =
      rw (← same) (record {
        entries = next_net one.entries others.entries refl;
        stand = (both_placed at this.entries rest.entries).1 (one.stand, rw one.next at others.stand);
        next = omega (arith, one.next, others.next, both_length this.entries rest.entries);
      })

  -- the records of nets that are read as good
  pub nets_good : (k : ℕ) (nets : List Net) (metal : List (List ℕ)) (totals : Totals) (at : ℕ) (p : Progress) → Begin nets
      → read_nets B j k nets metal totals at ≡ good p → NetsAt B j k nets metal at p
  unfolding read_nets All flat_map
  nets_good k [] metal totals at p begin e =
      let same : ◌≡◌ {A = Progress} (record { entries = []; metal = metal; totals = totals; at = at }) p = cc in
      rw (← same) (record { entries = no_nets; stand = placed_nil B at; next = sym (add-zero at) })
  nets_good k (net ∷ nets) metal totals at p begin e =
      let pins = pins_of j.grid net in
      let (this, reads, (rest, rests, same)) = simp steps at e in
      next_good k net nets metal at this rest p
      (net_good B bits good-j k (length pins) (begun pins metal) totals at this (begin.0 metal) (begun-length pins metal) reads)
      (nets_good (suc k) nets this.metal this.totals this.at rest begin.1 rests)
      same

  -- the entries of all nets are read
  pub nets_read : {k : ℕ} {nets : List Net} {metal : List (List ℕ)} {es : List Entry} (d : JobEntries j k nets metal es) → Begin nets
      → (totals : Totals) (at : ℕ) → Placed B at (entry_bits j.grid es)
      → read_nets B j k nets metal totals at ≡ good (read_to j.grid at es (job_metal d) (job_totals d totals))
  unfolding job_metal job_totals read_nets All flat_map ◌>>=◌
  nets_read (no_nets {k = k} {metal = metal}) begin totals at stand = rw add-zero
  nets_read (next_net {k = k} {net = net} {nets = nets} {metal = metal} {own = own} {others = others} n r is) begin totals at stand =
      let pins = pins_of j.grid net in
      let parts = (both_placed at own others).0 (rw is at stand) in
      let one = net_read B bits good-j k n totals (length pins) at (begin.0 metal) (begun-length pins metal) parts.0 in
      let rest = nets_read r begin.1 (net_totals n totals) (at + length (entry_bits j.grid own)) parts.1 in
      let next : at + length (entry_bits j.grid own) + length (entry_bits j.grid others) ≡ at + length (entry_bits j.grid (own ++ others)) =
      omega (arith, both_length own others) in
      rw (is, one, rest) (λ i. good (record {
        entries = own ++ others;
        metal = job_metal r;
        totals = job_totals r (net_totals n totals);
        at = next i;
      }))
