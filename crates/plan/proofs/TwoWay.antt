-- Reading a plan against a good job accepts exactly the legal plans.
--     entries_below              the bits of entries are bits
--     plan_below                 a plan's bytes are below 256
--     plan_legal                 a plan that is read is legal, with the entries that are read
--     made_by, plan_read         a legal plan is read, with its entries and the metal and the totals after
--                                them
--     plan_two_way               the law
--     plan_entries, plan_only    the entries of a legal plan are those that are read, and the only ones
use Prim.Native.Nat.{ℕ, ◌-◌, ◌<◌}
use native.Mathlib.Nat.{zero-add}
use mathlib.Core.Path.{◌≡◌, refl, ◌∙◌}
use mathlib.Core.Logic.{◌↔◌}
use mathlib.Core.List.{List, map}
use lib.ListN.{length, drop}
use Rattle.bits.specs.Bits.{number, bits_of, field_bits}
use Rattle.bits.specs.Puts.{AllBelow}
use Rattle.bits.proofs.Laws.{field_bits_bits, below_append, bits_of_bits, pack_bits_bytes}
use Rattle.job.specs.Grid.{Grid}
use Rattle.job.specs.Job.{Job}
use Rattle.job.specs.Good.{GoodJob}
use Rattle.job.specs.Reading.{good}
use Rattle.job.proofs.Tests.{tests}
use Rattle.job.proofs.Binds.{steps}
use Rattle.job.proofs.TwoWay.Filled.{group_below, concat_below, filled_tail, filled_packed}
use Rattle.rules.specs.Standings.{metal_at_first}
use Rattle.rules.specs.Joins.{Record, join, none}
use Rattle.rules.specs.Routings.{Entry, no_totals, Routed}
use Rattle.rules.proofs.Standing.{nets_apart}
use Rattle.plan.specs.Layout.{record_bits, plan_bytes}
use Rattle.plan.specs.Entries.{entry_bits}
use Rattle.plan.specs.Reading.{Progress, read_plan}
use Rattle.plan.specs.Legal.{LegalPlan}
use Rattle.plan.proofs.NetsRead.{NetsAt, nets_good, job_metal, job_totals, nets_read}

-- each of a record's bits is 0 or 1
record_below : (g : Grid) (r : Record) → AllBelow 2 (record_bits g r)
unfolding record_bits
record_below g none = field_bits_bits 1 0
record_below g (join start moves cost) =
    below_append 2 _ _ (group_below _) (below_append 2 _ _ (concat_below (field_bits 2) (field_bits_bits 2) moves) (field_bits_bits 40 cost))

-- and each of the bits of entries
pub entries_below : (g : Grid) (es : List Entry) → AllBelow 2 (entry_bits g es)
entries_below g es = concat_below (record_bits g) (record_below g) (map (λ (e : Entry). e.written) es)

-- so the bytes that they are packed to are bytes
pub plan_below : (g : Grid) (es : List Entry) → AllBelow 256 (plan_bytes g (map (λ (e : Entry). e.written) es))
unfolding plan_bytes
plan_below g es = pack_bits_bytes (entry_bits g es) (entries_below g es)

-- what a legal plan makes: its entries, and the metal and the totals after them
abbrev pub made_by : {j : Job} {bytes : List ℕ} → LegalPlan j bytes → Routed
made_by plan = record { entries = plan.entries; metal = job_metal plan.nets; totals = job_totals plan.nets no_totals }

module _ (j : Job) (bytes : List ℕ) (good-j : GoodJob j) (below : AllBelow 256 bytes) where
  -- what was read of a plan, with its tail
  whole_legal : (all : Progress) → NetsAt (bits_of bytes) j 0 j.nets (metal_at_first j) 0 all
      → (length (bits_of bytes) - all.at < 8) × (number (drop all.at (bits_of bytes)) ≡ 0)
      → (plan : LegalPlan j bytes) × (plan.entries ≡ all.entries)
  unfolding plan_bytes
  whole_legal all at tail =
      let B = bits_of bytes in
      let here = entry_bits j.grid all.entries in
      let end : all.at ≡ length here = at.next ∙ zero-add (length here) in
      let filled = (filled_tail B here (bits_of_bits bytes)).1 (at.stand, rw end at tail) in (
        record {
          entries = all.entries;
          nets = at.entries;
          bits = (filled_packed bytes here below (entries_below j.grid all.entries)).0 filled;
        },
        refl,
      )

  -- a plan that is read is legal, with the entries that are read
  pub plan_legal : (r : Routed) → read_plan j bytes ≡ good r → (plan : LegalPlan j bytes) × (plan.entries ≡ r.entries)
  unfolding read_plan
  plan_legal r = simp (steps, tests) (λ (all, reads, (tail, same)).
      let (plan, is) =
      whole_legal all
      (nets_good (bits_of bytes) (bits_of_bits bytes) good-j 0 j.nets (metal_at_first j) no_totals 0 all (nets_apart good-j) reads) tail in
      (plan, is ∙ (λ i. (same i).entries)))

  -- a legal plan is read, with what it makes
  pub plan_read : (plan : LegalPlan j bytes) → read_plan j bytes ≡ good (made_by plan)
  unfolding read_plan plan_bytes
  plan_read plan =
      let B = bits_of bytes in
      let here = entry_bits j.grid plan.entries in
      let filled = (filled_packed bytes here below (entries_below j.grid plan.entries)).1 plan.bits in
      let parts = (filled_tail B here (bits_of_bits bytes)).0 filled in
      let read = nets_read B (bits_of_bits bytes) good-j plan.nets (nets_apart good-j) no_totals 0 parts.0 in
      simp (steps, tests) (_, read, (rw zero-add parts.1, refl))

  -- the law
  pub plan_two_way : ((r : Routed) × (read_plan j bytes ≡ good r)) ↔ LegalPlan j bytes
  plan_two_way = (λ (r, e). (plan_legal r e).0, λ plan. (made_by plan, plan_read plan))

  -- the entries of a legal plan are those that are read
  pub plan_entries : (r : Routed) → read_plan j bytes ≡ good r → (plan : LegalPlan j bytes) → plan.entries ≡ r.entries
  plan_entries r e plan =
      let reads = plan_read plan in
      let one : made_by plan ≡ r = cc in
      λ i. (one i).entries

  -- and the only ones
  pub plan_only : (p q : LegalPlan j bytes) → p.entries ≡ q.entries
  plan_only p q = plan_entries (made_by q) (plan_read q) p
