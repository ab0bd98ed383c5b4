-- Reading the records of a net with arrays comes to what reading them by the definition comes to.
--     NetMeet             what the two readings have in common
--     entry_counts_lem    the counts of a join that was read are those of its entry
--     with_entry_lem      the counts of an entry and of the rest are those of both
--     net_follow          the law
use Prim.Native.Nat.{ℕ, zero, suc, ◌+◌, ◌<◌}
use mathlib.Core.Path.{◌≡◌, refl, sym, ap, subst, ◌∙◌}
use mathlib.Core.List.{List, flat_map}
use mathlib.Core.Bool.{Bool, true, false}
use Rattle.bits.specs.Bits.{field}
use Rattle.bits.specs.Puts.{AllBelow}
use Rattle.job.specs.Lists.{All}
use Rattle.job.specs.Grid.{vertices}
use Rattle.job.specs.Job.{Job}
use Rattle.job.specs.Good.{GoodJob}
use Rattle.job.specs.Reading.{good, ◌>>=◌}
use Rattle.rules.specs.Walks.{start_at, walked, walk, walk_cost}
use Rattle.rules.specs.Views.{View, view_of}
use Rattle.rules.specs.Prices.{tech_of}
use Rattle.rules.specs.Standings.{Standing, joined_by}
use Rattle.rules.specs.Joins.{join}
use Rattle.rules.specs.Routings.{Entry, Totals, with_join}
use Rattle.plan.specs.Reading.{group, Progress, before, JoinRead, read_join, by_flag, unless_joined, read_net}
use Rattle.plan.proofs.JoinRead.{join_good}
use Rattle.plan.proofs.Entries.{legal_apart}
use Rattle.plan.proofs.NetRead.{unless_some}
use Rattle.counts.specs.Counts.{counted, walked_counts, record_counts, entry_counts, plan_counts}
use Rattle.counts.proofs.Adding.{counted-append}
use Rattle.metal.specs.Codes.{Codes}
use Rattle.tree.specs.Spots.{some_unjoined}
use Rattle.tree.proofs.Spots.{some_none, some_one}
use Rattle.replay.specs.Following as Code
use Rattle.walker.specs.Entering.{Arrays}
use Rattle.walker.specs.Standing.{AtNet}
use Rattle.walker.proofs.Standing.{net_joined}
use Rattle.replay.specs.Following.{came, and_on, join_from, Ended, with_join_counts, net_from}
use Rattle.replay.proofs.Follow.{Follow, both_good, follow_on, follow_meets, follow_with, follow_then}
use Rattle.replay.proofs.JoinFollow.{join_start, join_walks, join_follow}

-- both have the same totals, the same next bit and the counts of the same entries, and the codes are those of
-- the metal
abbrev pub NetMeet : Job → (counts : List ℕ) → Progress → Ended → Arrays → Type 0
NetMeet j counts read ended arrays =
    (ended ≡ record { totals = read.totals; counts = counted (plan_counts j read.entries) counts; next = read.at })
    × Codes j.grid read.metal arrays.codes

-- the counts of a join that was read are those of its entry
entry_counts_lem : (B : List ℕ) (j : Job) (k : ℕ) (s : Standing) (at : ℕ) (read : JoinRead) (counts : List ℕ) → read_join B j k s at ≡ good read
    → walk (tech_of j) (view_of j k s.metal) (start_at read.start) read.moved.moves ≡ walked read.moved.last read.moved.made
    → with_join_counts B (tech_of j) (view_of j k s.metal) at read.moved.made counts
    ≡ counted (record_counts (tech_of j) (view_of j k s.metal) (join read.start read.moved.moves (walk_cost read.moved.made))) counts
unfolding with_join_counts record_counts walked_counts tech_of
entry_counts_lem B j k s at read counts is walks = rw (← join_start B j k s at read is, walks) refl

-- with an entry's counts first
with_entry_lem : (j : Job) (counts : List ℕ) {more : List ℕ} (e : Entry) (rest : Progress) {ended : Ended} (left : Arrays) → more ≡ counted (entry_counts j e) counts
    → NetMeet j more rest ended left → NetMeet j counts (before e rest) ended left
unfolding before flat_map
with_entry_lem j counts e rest left own (same, coded) =
    let all = ap (counted (plan_counts j rest.entries)) own ∙ sym (counted-append (entry_counts j e) (plan_counts j rest.entries) counts) in
    (same ∙ (λ i. record { totals = rest.totals; counts = all i; next = rest.at }), coded)

module _ (B : List ℕ) (bits : AllBelow 2 B) {j : Job} (good-j : GoodJob j) (k : ℕ) (view : View) (pins : List ℕ)
    (on : All (λ v. v < vertices j.grid) pins) where
  -- reading at most n records follows
  abbrev NetFollows : (n : ℕ) → Type 0
  NetFollows n =
      (s : Standing) (totals : Totals) (counts : List ℕ) (at : ℕ) (arrays : Arrays) → AtNet j k view pins s arrays
      → Follow (NetMeet j counts) (read_net B j k n s totals at) (net_from B (tech_of j) view (suc k) pins n at totals counts arrays)

  -- a record and those after it
  records_follow : (n : ℕ) (s : Standing) (totals : Totals) (counts : List ℕ) (at : ℕ) (arrays : Arrays) → AtNet j k view pins s arrays → NetFollows n
      → (flag : ℕ) (ended : Progress) → ended.totals ≡ totals → ended.at ≡ at + 1 → ended.metal ≡ s.metal
      → counted (plan_counts j ended.entries) counts ≡ counts → Follow (NetMeet j counts)
      (by_flag flag ended (read_join B j k s (at + 1)) (λ read.
      ◌>>=◌ (read_net B j k n (joined_by k s read.moved.last.vertex read.moved.made) (with_join totals read.moved.made) read.next)
      (λ rest. good (before (record { net = k; before = s; written = join read.start read.moved.moves (walk_cost read.moved.made) }) rest))))
      (Code.by_flag flag (came (record { totals = totals; counts = counts; next = at + 1 }) arrays)
      (and_on (join_from B (tech_of j) view (suc k) (at + 1) arrays) (λ joined after.
      net_from B (tech_of j) view (suc k) pins n joined.next (with_join totals joined.gone.made)
      (with_join_counts B (tech_of j) view (at + 1) joined.gone.made counts) after)))
  unfolding by_flag Code.by_flag before flat_map
  records_follow n s totals counts at arrays here rest-follows zero ended et ea em ee =
      both_good {arrays = arrays} refl refl (
        λ i. record { totals = sym et i; counts = sym ee i; next = sym ea i },
        subst (λ (metal : List (List ℕ)). Codes j.grid metal arrays.codes) (sym em) here.stood.codes,
      )
  records_follow n s totals counts at arrays here rest-follows (suc one) ended et ea em ee =
      rw here.sees (follow_on (NetMeet j counts) _ _ (join_follow B bits good-j k s here.apart (at + 1) arrays here.known here.stood)
      (λ read joined after is meet.
      let e : Entry = record { net = k; before = s; written = join read.start read.moved.moves (walk_cost read.moved.made) } in
      let legal = (join_good B bits j k s (at + 1) read is).legal in
      let more = with_join_counts B (tech_of j) (view_of j k s.metal) (at + 1) read.moved.made counts in
      rw meet.0 (follow_with (NetMeet j counts) (before e)
      (follow_meets (λ rest done left m. with_entry_lem j counts e rest left (entry_counts_lem B j k s (at + 1) read counts is (join_walks B bits j k s (at + 1) read is)) m)
      (rw here.sees at (rest-follows (joined_by k s read.moved.last.vertex read.moved.made) (with_join totals read.moved.made) more read.next after
      (net_joined j k view pins s read.moved.made read.moved.last.vertex arrays after here (legal_apart good-j k s here.apart legal) meet.1)))))))

  -- the law
  pub net_follow : (n : ℕ) → NetFollows n
  unfolding read_net net_from unless_joined flat_map record_counts counted
  net_follow zero s totals counts at arrays here = both_good refl refl (refl, here.stood.codes)
  net_follow (suc n) s totals counts at arrays here = by (some_unjoined arrays.spots pins) refl (net_follow n)
    where
      by : (b : Bool) → some_unjoined arrays.spots pins ≡ b → NetFollows n
          → Follow (NetMeet j counts) (read_net B j k (suc n) s totals at) (net_from B (tech_of j) view (suc k) pins (suc n) at totals counts arrays)
      by false e rest-follows =
          let none = some_none j.grid s.tree s.unjoined pins arrays.spots here.apart.no_goal on here.among here.stood.spots e in
          rw (e, none) (both_good refl refl (refl, here.stood.codes))
      by true e rest-follows =
          let some = some_one j.grid s.tree s.unjoined pins arrays.spots here.apart.no_goal on here.stood.spots e in
          rw (e, unless_some s.unjoined _ _ some)
          (follow_then (NetMeet j counts) (group B at 1) arrays _ _ (records_follow n s totals counts at arrays here rest-follows (field B at 1) _ refl refl refl refl))
