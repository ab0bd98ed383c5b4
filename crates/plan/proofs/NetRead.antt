-- Reading the records of a net: good exactly where their bits stand there and they are a net's entries.
--     unless_some, flag_good           records are read while a pin is unjoined, each by its flag
--     read_all                         with none unjoined, no record is read
--     NetAt, net_good                  the records of a net that are read as good
--     net_totals, read_to, net_read    the entries of a net are read, with the totals after them
use Prim.Native.Nat.{ℕ, zero, suc, ◌+◌, ◌≤◌, ◌<◌}
use native.Mathlib.Nat.{add-zero}
use native.Mathlib.Omega.{arith}
use mathlib.Core.Path.{◌≡◌, refl, sym, ap, ◌∙◌}
use mathlib.Core.Logic.{◌⊎◌, inl, inr}
use mathlib.Core.List.{List, [], ◌∷◌, flat_map}
use lib.ListN.{length, length-append}
use lib.Dec.{T}
use Rattle.bits.specs.Bits.{field, whole, field_bits}
use Rattle.bits.specs.Puts.{AllBelow}
use Rattle.bits.proofs.Laws.{length-field_bits, field_below}
use Rattle.job.specs.Grid.{Grid}
use Rattle.job.specs.Job.{Job}
use Rattle.job.specs.Good.{GoodJob}
use Rattle.job.specs.Reading.{Read, good, ◌>>=◌, ◌>>◌}
use Rattle.job.proofs.Binds.{rule_good, then_good, bind_good}
use Rattle.job.proofs.TwoWay.Places.{Placed, placed_nil, placed-append}
use Rattle.rules.specs.Prices.{tech_of}
use Rattle.rules.specs.Walks.{walk_cost}
use Rattle.rules.specs.Standings.{Standing, joined_by}
use Rattle.rules.specs.Apart.{Stands}
use Rattle.rules.specs.Joins.{join, none}
use Rattle.rules.specs.Routings.{Entry, Totals, with_join, with_net}
use Rattle.plan.specs.Layout.{record_bits}
use Rattle.plan.specs.Entries.{entry_bits}
use Rattle.plan.specs.Reading.{group, JoinRead, Progress, before, read_join, by_flag, unless_joined, read_net}
use Rattle.plan.specs.Legal.{LegalJoin, NetEntries, all_joined, gave_up, joins}
use Rattle.plan.proofs.Unjoined.{none_left, some_left}
use Rattle.plan.proofs.Moves.{field-placed}
use Rattle.plan.proofs.JoinRead.{JoinAt, join_good, read_of, legal_walk, join_read}
use Rattle.plan.proofs.Entries.{record_placed, length_record, legal_apart, legal_fewer}

-- no pin is unjoined, or records follow
unless_good : (u : List ℕ) (done : Progress) (records : Read Progress) (p : Progress) → unless_joined u done records ≡ good p
    → ((u ≡ []) × (done ≡ p)) ⊎ ((u ≡ [] → ⊥) × (records ≡ good p))
unfolding unless_joined
unless_good [] done records p e = inl (refl, cc)
unless_good (x ∷ xs) done records p e = inr (λ h. let z : ◌≡◌ {A = ℕ} 0 1 = cc in omega arith, e)

-- where pins are unjoined, records follow
pub unless_some : (u : List ℕ) (done : Progress) (records : Read Progress) → (u ≡ [] → ⊥) → unless_joined u done records ≡ records
unfolding unless_joined
unless_some [] done records h = absurd (h refl)
unless_some (x ∷ xs) done records h = refl

-- the flag says none, or a join follows
flag_good : (f : ℕ) (ended : Progress) (joined : Read JoinRead) (follows : JoinRead → Read Progress) (p : Progress)
    → by_flag f ended joined follows ≡ good p → f < 2
    → ((f ≡ 0) × (ended ≡ p)) ⊎ ((f ≡ 1) × ((read : JoinRead) × (joined ≡ good read) × (follows read ≡ good p)))
unfolding by_flag
flag_good zero ended joined follows p e small = inl (refl, cc)
flag_good (suc one) ended joined follows p e small = inr (omega arith, (bind_good joined follows p).0 e)

-- what is read of a net with no pin unjoined
abbrev done_at : Standing → Totals → (at : ℕ) → Progress
done_at s totals at = record { entries = []; metal = s.metal; totals = with_net totals; at = at }

-- and of a record that says none
abbrev ended_at : (k : ℕ) → Standing → Totals → (at : ℕ) → Progress
ended_at k s totals at =
    record { entries = record { net = k; before = s; written = none } ∷ []; metal = s.metal; totals = totals; at = at + 1 }

-- with none unjoined, no record is read
pub read_all : (bits : List ℕ) (j : Job) (k n : ℕ) (s : Standing) (totals : Totals) (at : ℕ) → s.unjoined ≡ []
    → read_net bits j k n s totals at ≡ good (done_at s totals at)
unfolding read_net unless_joined
read_all bits j k zero s totals at all = refl
read_all bits j k (suc n) s totals at all = rw all refl

-- the entry of a join that was read
abbrev joined_entry : (k : ℕ) → Standing → JoinRead → Entry
joined_entry k s read = record { net = k; before = s; written = join read.start read.moved.moves (walk_cost read.moved.made) }

-- what stands after it
abbrev joined_standing : (k : ℕ) → Standing → JoinRead → Standing
joined_standing k s read = joined_by k s read.moved.last.vertex read.moved.made

-- what is read after a join
abbrev goes_on : (B : List ℕ) → Job → (k n : ℕ) → Standing → Totals → JoinRead → Read Progress
goes_on B j k n s totals read =
    ◌>>=◌ (read_net B j k n (joined_standing k s read) (with_join totals read.moved.made) read.next) (λ rest. good (before (joined_entry k s read) rest))

-- the records of a net that were read: its entries, their bits stand there, and the next bit is the one
-- behind them
pub record NetAt (B : List ℕ) (j : Job) (k : ℕ) (s : Standing) (at : ℕ) (p : Progress) : Type 0 where
  pub entries : NetEntries j k s p.entries p.metal
  pub stand : Placed B at (entry_bits j.grid p.entries)
  pub next : p.at ≡ at + length (entry_bits j.grid p.entries)

-- the totals after a net's entries
unfoldable pub net_totals : {j : Job} {k : ℕ} {s : Standing} {es : List Entry} {metal : List (List ℕ)} → NetEntries j k s es metal → Totals → Totals
net_totals (all_joined all left) totals = with_net totals
net_totals (gave_up some is left) totals = totals
net_totals (joins l is rest) totals = net_totals rest (with_join totals l.made)

-- what is read where these entries stand from a bit on
abbrev pub read_to : Grid → (at : ℕ) → List Entry → (metal : List (List ℕ)) → Totals → Progress
read_to g at es metal totals = record { entries = es; metal = metal; totals = totals; at = at + length (entry_bits g es) }

module _ (B : List ℕ) (bits : AllBelow 2 B) {j : Job} (good-j : GoodJob j) (k : ℕ) where
  -- no record, where no pin is unjoined
  none_good : (s : Standing) (totals : Totals) (at : ℕ) (p : Progress) → s.unjoined ≡ []
      → done_at s totals at ≡ p → NetAt B j k s at p
  unfolding flat_map
  none_good s totals at p all same =
      rw (← same) (record { entries = all_joined all refl; stand = placed_nil B at; next = sym (add-zero at) })

  -- one record that says none
  ended_good : (s : Standing) (totals : Totals) (at : ℕ) (p : Progress) → (s.unjoined ≡ [] → ⊥) → Placed B at (field_bits 1 0)
      → ended_at k s totals at ≡ p → NetAt B j k s at p
  unfolding flat_map record_bits
  ended_good s totals at p some here same =
      rw (← same) (record {
        entries = gave_up some refl refl;
        stand = (placed-append B at (field_bits 1 0) []).1 (here, placed_nil B _);
        next = rw (length-append, length-field_bits);
      })

  -- a join and what follows it
  joined_good : (s : Standing) (at : ℕ) (p : Progress) (read : JoinRead) (rest : Progress) → Placed B at (field_bits 1 1) → JoinAt B j k s (at + 1) read
      → NetAt B j k (joined_standing k s read) read.next rest → before (joined_entry k s read) rest ≡ p → NetAt B j k s at p
  unfolding flat_map before
  joined_good s at p read rest here one after same =
      let g = j.grid in
      let start = read.start in
      let moves = read.moved.moves in
      let cost = walk_cost read.moved.made in
      let size = length_record g start moves cost (entry_bits g rest.entries) in
      rw (← same) (record {
        entries = joins one.legal refl after.entries;
        stand =
            (record_placed B at g start moves cost (entry_bits g rest.entries)).1
            ((here, one.stand), rw one.next at after.stand);
        next = omega (arith, one.next, after.next, size);
      })

  -- one record and those that follow it, where the law holds of these
  flagged_good : (n : ℕ) (s : Standing) (totals : Totals) (at : ℕ) (p : Progress) → Stands (tech_of j) s → length s.unjoined ≤ suc n
      → (s.unjoined ≡ [] → ⊥) → T (whole B at 1)
      → ((field B at 1 ≡ 0) × (ended_at k s totals at ≡ p))
      ⊎ ((field B at 1 ≡ 1) × ((read : JoinRead) × (read_join B j k s (at + 1) ≡ good read) × (goes_on B j k n s totals read ≡ good p)))
      → ((s : Standing) (totals : Totals) (at : ℕ) (p : Progress) → Stands (tech_of j) s → length s.unjoined ≤ n
      → read_net B j k n s totals at ≡ good p → NetAt B j k s at p)
      → NetAt B j k s at p
  flagged_good n s totals at p apart few some w (inl (flag, same)) rest-good =
      ended_good s totals at p some ((field-placed B at bits 1 0 (omega arith)).1 (w, flag)).0 same
  flagged_good n s totals at p apart few some w (inr (flag, (read, reads, goes))) rest-good =
      let one = join_good B bits j k s (at + 1) read reads in
      let (rest, rests, same) = (bind_good (read_net B j k n (joined_standing k s read) (with_join totals read.moved.made) read.next) _ p).0 goes in
      let fewer = legal_fewer good-j k s apart one.legal in
      let after = rest-good (joined_standing k s read) _ read.next rest (legal_apart good-j k s apart one.legal) (omega arith) rests in
      joined_good s at p read rest ((field-placed B at bits 1 1 (omega arith)).1 (w, flag)).0 one after (cc)

  -- no record, or one and those that follow it
  more_good : (n : ℕ) (s : Standing) (totals : Totals) (at : ℕ) (p : Progress) → Stands (tech_of j) s → length s.unjoined ≤ suc n
      → ((s.unjoined ≡ []) × (done_at s totals at ≡ p))
      ⊎ ((s.unjoined ≡ [] → ⊥) × (◌>>◌ (group B at 1)
      (by_flag (field B at 1) (ended_at k s totals at) (read_join B j k s (at + 1)) (goes_on B j k n s totals)) ≡ good p))
      → ((s : Standing) (totals : Totals) (at : ℕ) (p : Progress) → Stands (tech_of j) s → length s.unjoined ≤ n
      → read_net B j k n s totals at ≡ good p → NetAt B j k s at p)
      → NetAt B j k s at p
  more_good n s totals at p apart few (inl (all, same)) rest-good = none_good s totals at p all same
  more_good n s totals at p apart few (inr (some, e)) rest-good =
      let (w, flagged) = (then_good (group B at 1) _ p).0 e in
      flagged_good n s totals at p apart few some ((rule_good 15 at (whole B at 1)).0 w)
      (flag_good (field B at 1) (ended_at k s totals at) (read_join B j k s (at + 1)) (goes_on B j k n s totals) p flagged (field_below B at 1 bits))
      rest-good

  -- the records of a net that are read as good
  pub net_good : (n : ℕ) (s : Standing) (totals : Totals) (at : ℕ) (p : Progress) → Stands (tech_of j) s → length s.unjoined ≤ n
      → read_net B j k n s totals at ≡ good p → NetAt B j k s at p
  unfolding read_net
  net_good zero s totals at p apart few e = none_good s totals at p (none_left s.unjoined few) (cc)
  net_good (suc n) s totals at p apart few e = more_good n s totals at p apart few (unless_good s.unjoined _ _ p e) (net_good n)

  -- no entries
  none_read : (n : ℕ) (s : Standing) (totals : Totals) (at : ℕ) → s.unjoined ≡ []
      → read_net B j k n s totals at ≡ good (read_to j.grid at [] s.metal (with_net totals))
  unfolding flat_map
  none_read n s totals at all = read_all B j k n s totals at all ∙ rw add-zero

  -- where a pin is unjoined, a record is read
  flagged_read : (n : ℕ) (s : Standing) (totals : Totals) (at : ℕ) (p : Progress) → (s.unjoined ≡ [] → ⊥) → T (whole B at 1)
      → by_flag (field B at 1) (ended_at k s totals at) (read_join B j k s (at + 1)) (goes_on B j k n s totals) ≡ good p
      → read_net B j k (suc n) s totals at ≡ good p
  unfolding read_net
  flagged_read n s totals at p some w e =
      unless_some s.unjoined _ _ some ∙ (then_good (group B at 1) _ p).1 ((rule_good 15 at (whole B at 1)).1 w, e)

  -- an entry that says none
  ended_read : (n : ℕ) (s : Standing) (totals : Totals) (at : ℕ) → (s.unjoined ≡ [] → ⊥) → length s.unjoined ≤ n
      → Placed B at (entry_bits j.grid (record { net = k; before = s; written = none } ∷ []))
      → read_net B j k n s totals at ≡ good (read_to j.grid at (record { net = k; before = s; written = none } ∷ []) s.metal totals)
  unfolding by_flag flat_map record_bits
  ended_read zero s totals at some few stand = absurd (omega (arith, some_left s.unjoined some))
  ended_read (suc n) s totals at some few stand =
      let here = (field-placed B at bits 1 0 (omega arith)).0 (((placed-append B at (field_bits 1 0) []).0 stand).0, omega arith) in
      flagged_read n s totals at _ some here.0 (rw (here.1, length-append, length-field_bits))

  -- a join's entry and those that follow it, where these are read
  joined_read : (n : ℕ) (s : Standing) (totals : Totals) (at : ℕ) {after : Standing} {start cost : ℕ} {moves : List ℕ} {es : List Entry}
      {metal : List (List ℕ)} {end : Totals} (l : LegalJoin j k s start moves cost after) → Stands (tech_of j) s → length s.unjoined ≤ n
      → Placed B at (entry_bits j.grid (record { net = k; before = s; written = join start moves cost } ∷ es))
      → ((n at : ℕ) → Stands (tech_of j) after → length after.unjoined ≤ n → Placed B at (entry_bits j.grid es)
      → read_net B j k n after (with_join totals l.made) at ≡ good (read_to j.grid at es metal end))
      → read_net B j k n s totals at ≡ good (read_to j.grid at (record { net = k; before = s; written = join start moves cost } ∷ es) metal end)
  unfolding by_flag flat_map before
  joined_read zero s totals at l apart few stand rest_read = absurd (omega (arith, legal_fewer good-j k s apart l))
  joined_read (suc n) s totals at {after} {start} {cost} {moves} {es} {metal} {end} l apart few stand rest_read =
      let g = j.grid in
      let parts = (record_placed B at g start moves cost (entry_bits g es)).0 stand in
      let here = (field-placed B at bits 1 1 (omega arith)).0 (parts.0.0, omega arith) in
      let read = read_of (at + 1) l in
      let fewer = legal_fewer good-j k s apart l in
      let reads = join_read good-j k s apart B bits (at + 1) l parts.0.1 in
      let rest = rest_read n read.next (legal_apart good-j k s apart l) (omega arith) parts.1 in
      let (ends, costs) = legal_walk good-j k s apart l in
      let p = read_to g at (record { net = k; before = s; written = join start moves cost } ∷ es) metal end in
      let next : read.next + length (entry_bits g es) ≡ p.at = omega (arith, length_record g start moves cost (entry_bits g es)) in
      let goes : goes_on B j k n s totals read ≡ good p =
      (bind_good (read_net B j k n (joined_standing k s read) (with_join totals l.made) read.next) _ p).1 (
        read_to g read.next es metal end,
        ap (λ (x : Standing). read_net B j k n x (with_join totals l.made) read.next) (sym l.stands) ∙ rest,
        λ i. good (record {
          entries = record { net = k; before = s; written = join start moves (costs i) } ∷ es;
          metal = metal;
          totals = end;
          at = next i;
        }),
      ) in
      let some : s.unjoined ≡ [] → ⊥ = λ h. omega (arith, ap length h) in
      flagged_read n s totals at p some here.0
      (rw here.1 ((bind_good (read_join B j k s (at + 1)) (goes_on B j k n s totals) p).1 (read, reads, goes)))

  -- the entries of a net are read
  pub net_read : {s : Standing} {es : List Entry} {metal : List (List ℕ)} (d : NetEntries j k s es metal) (totals : Totals) (n at : ℕ)
      → Stands (tech_of j) s → length s.unjoined ≤ n → Placed B at (entry_bits j.grid es)
      → read_net B j k n s totals at ≡ good (read_to j.grid at es metal (net_totals d totals))
  unfolding net_totals
  net_read (all_joined {s = s} all left) totals n at apart few stand = rw left (none_read n s totals at all)
  net_read (gave_up {s = s} some is left) totals n at apart few stand = rw (is, left) (ended_read n s totals at some few (rw is at stand))
  net_read (joins {s = s} l is rest) totals n at apart few stand =
      rw is (joined_read n s totals at l apart few (rw is at stand) (net_read rest (with_join totals l.made)))
