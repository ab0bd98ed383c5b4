-- The turns of reading the records of a net.
--     flag_turn                           what follows a flag
--     Recording, recording_begun          what has been read, and that the rest gives the whole
--     recording_joined                    every pin is joined
--     recording_cut, recording_none       a flag that is cut, or says none
--     recording_refused, recording_on     a join
--     recording_done                      as many records as may be
use Prim.Native.Nat.{ℕ, zero, suc, ◌+◌, ◌-◌, ◌*◌, ◌^◌, ◌≤◌, ◌<◌}
use mathlib.Core.Path.{◌≡◌, refl, sym, ap, ◌∙◌}
use mathlib.Core.List.{List}
use mathlib.Core.Bool.{Bool, true, false, not, cond}
use native.Mathlib.Omega.{arith}
use lib.ListN.{length}
use lib.Dec.{eqb}
use borrow.Author.Tests.{ne_eqb}
use Rattle.bits.specs.Bits.{field, whole}
use Rattle.bits.specs.Puts.{AllBelow}
use Rattle.job.specs.Reading.{Read, good, ◌>>◌, rule}
use Rattle.job.specs.Refusals.{number_of, read_of}
use Rattle.job.specs.declared.refusal.Refused.{Refused}
use Rattle.rules.specs.Views.{View}
use Rattle.rules.specs.Structs.{TechFits, tech_by}
use Rattle.rules.specs.Routings.{Totals, with_join, with_net}
use Rattle.rules.specs.declared.price.Tech.{Tech as TechStruct}
use Rattle.rules.specs.declared.totals.Totals.{Totals as TotalsStruct}
use Rattle.plan.specs.Reading.{group}
use Rattle.counts.specs.Structs.{CountsFit}
use Rattle.counts.proofs.Counting.{fit_under}
use Rattle.tree.specs.Spots.{some_unjoined}
use Rattle.walker.specs.Entering.{Arrays}
use Rattle.walker.specs.Structs.{totals_of, Bounded, WalkFits}
use Rattle.replay.specs.Following.{Came, came, stopped, and_on, and_read, arrays_of, Joined, join_from, Ended, by_flag, with_join_counts, net_from}
use Rattle.replay.specs.Structs.{flag_of, IsJoin, JoinFits, CountedJoin, IsNet, CountedNet, NetFits}
use Rattle.replay.specs.declared.join.Joined.{Joined as JoinedStruct}
use Rattle.replay.specs.declared.net.Ended.{Ended as EndedStruct}
use Rattle.replay.proofs.Parts.{read_refused, read_good}
use Rattle.replay.proofs.Kept.{join_kept}
use Rattle.std.proofs.Common.{Result, Ok, Err}

-- what follows a flag, by what the code reads of it
flag_turn : (bits : List ℕ) (at : ℕ) (arrays : Arrays) (none join : Came Ended)
    → and_read arrays (group bits at 1) (λ whole. by_flag (field bits at 1) none join) ≡ and_read arrays (flag_of bits at) (λ more. cond more join none)
unfolding flag_of and_read by_flag rule ◌>>◌
flag_turn bits at arrays none join = by (whole bits at 1) (field bits at 1)
  where
    by : (w : Bool) (flag : ℕ) → and_read arrays (rule 15 at w) (λ whole. by_flag flag none join)
        ≡ and_read arrays (◌>>◌ (rule 15 at w) (good (not (eqb flag 0)))) (λ more. cond more join none)
    by true zero = refl
    by true (suc one) = rw (ne_eqb (suc one) 0 (λ e. omega (arith, e))) refl
    by false flag = refl

-- ---- the records

module _ (tech : TechStruct) (view : View) (B : List ℕ) (net : ℕ) (pins : List ℕ) (count from : ℕ) (before : Totals) (counts₀ : List ℕ) (first : Arrays) where
  -- what reading the records comes to
  abbrev pub Whole_net : Came Ended
  Whole_net = net_from B (tech_by tech) view net pins count from before counts₀ first

  -- so many records are read: the rest from here gives the whole, and totals and counts are small
  pub record Recording (spots codes counts : List ℕ) (totals : TotalsStruct) (at done : ℕ) : Type 0 where
    pub same : Whole_net ≡ net_from B (tech_by tech) view net pins (count - done) at (totals_of totals) counts (record { spots = spots; codes = codes })
    pub bounded : Bounded (16 * net + done) totals at
    pub joined : totals.joined ≤ 16 * net
    pub few : done ≤ count
    pub size : length codes ≡ length first.codes
    pub small : CountsFit (2 ^ 22 * at) counts

  -- what the code answers and leaves
  abbrev pub Answers : Result EndedStruct Refused → (codes counts : List ℕ) → Type 0
  Answers r codes counts = IsNet r Whole_net × (NetFits (16 * net + 16) r × ((codes ≡ (arrays_of Whole_net).codes) × CountedNet Whole_net counts))

  -- before the first record
  pub recording_begun : (totals : TotalsStruct) → before ≡ totals_of totals → Bounded (16 * net) totals from → CountsFit (2 ^ 22 * from) counts₀
      → Recording first.spots first.codes counts₀ totals from 0
  recording_begun totals is b small =
      let none : 16 * net + 0 ≡ 16 * net = omega arith in
      let all : count - 0 ≡ count = omega arith in
      record { same = rw (is, all) refl; bounded = rw none b; joined = b.joined; few = omega arith; size = refl; small = small }

  module _ {spots codes counts : List ℕ} {totals : TotalsStruct} {at done : ℕ} (so_far : Recording spots codes counts totals at done) where
    -- the arrays now
    abbrev here : Arrays
    here = record { spots = spots; codes = codes }

    -- what the rest gives, after a flag and a join
    abbrev after_join_lem : Came Joined → Came Ended
    after_join_lem x =
        and_on x (λ joined after. net_from B (tech_by tech) view net pins (count - (done + 1)) joined.next (with_join (totals_of totals) joined.gone.made)
        (with_join_counts B (tech_by tech) view (at + 1) joined.gone.made counts) after)

    abbrev after_flag : Read Bool → Came Ended
    after_flag x =
        and_read here x (λ more. cond more (after_join_lem (join_from B (tech_by tech) view net (at + 1) here))
        (came (record { totals = totals_of totals; counts = counts; next = at + 1 }) here))

    -- the whole is this record, and the rest
    one_more : done < count → Whole_net
        ≡ cond (some_unjoined spots pins) (after_flag (flag_of B at)) (came (record { totals = with_net (totals_of totals); counts = counts; next = at }) here)
    unfolding net_from
    one_more some =
        let left : count - done ≡ suc (count - (done + 1)) = omega (arith, some) in
        so_far.same ∙ rw (
          left,
          flag_turn B at here (came (record { totals = totals_of totals; counts = counts; next = at + 1 }) here)
              (after_join_lem (join_from B (tech_by tech) view net (at + 1) here)),
        ) refl

    -- every pin is joined, so the net is
    net_ends : Whole_net ≡ came (record { totals = with_net (totals_of totals); counts = counts; next = at }) here → count ≤ 16 → {ended : TotalsStruct}
        → ended ≡ record { cost = totals.cost; added = totals.added; penalties = totals.penalties; joined = totals.joined + 1 }
        → Answers (Ok (record { totals = ended; next = at })) codes counts
    unfolding IsNet NetFits CountedNet arrays_of with_net
    net_ends whole sixteen is =
        let b = so_far.bounded in
        let one : totals.joined + 1 ≡ suc totals.joined = omega arith in
        rw (whole, is) (
          (λ i. record { cost = totals.cost; added = totals.added; penalties = totals.penalties; joined = one i }, refl),
          (
            record {
              cost = omega (arith, b.cost, so_far.few);
              added = omega (arith, b.added, so_far.few);
              penalties = omega (arith, b.penalties, so_far.few);
              joined = omega (arith, so_far.joined);
              reach = omega (arith, b.reach, so_far.few);
            },
            (refl, (refl, so_far.small)),
          ),
        )

    pub recording_joined : done < count → some_unjoined spots pins ≡ false → count ≤ 16 → {ended : TotalsStruct}
        → ended ≡ record { cost = totals.cost; added = totals.added; penalties = totals.penalties; joined = totals.joined + 1 }
        → Answers (Ok (record { totals = ended; next = at })) codes counts
    recording_joined some none = net_ends (one_more some ∙ rw none refl)

    -- as many records as may be
    pub recording_done : count ≤ done → count ≤ 16 → {ended : TotalsStruct}
        → ended ≡ record { cost = totals.cost; added = totals.added; penalties = totals.penalties; joined = totals.joined + 1 }
        → Answers (Ok (record { totals = ended; next = at })) codes counts
    unfolding net_from
    recording_done none = let no_record : count - done ≡ 0 = omega (arith, none) in net_ends (so_far.same ∙ rw no_record refl)

    module _ (some : done < count) (unjoined : some_unjoined spots pins ≡ true) {flag : Result Bool Refused} (flagged : read_of flag ≡ flag_of B at) where
      -- a flag that is cut
      pub recording_cut : {e : Refused} → flag ≡ Err e → Answers (Err e) codes counts
      unfolding IsNet NetFits CountedNet arrays_of and_read
      recording_cut {e} told =
          let whole : Whole_net ≡ stopped (number_of e.refusal) e.place here = one_more some ∙ rw (unjoined, read_refused flagged told) refl in
          rw whole ((refl, refl), (tt, (refl, tt)))

      -- a record that says none
      pub recording_none : flag ≡ Ok false → count ≤ 16 → Answers (Ok (record { totals = totals; next = at + 1 })) codes counts
      unfolding IsNet NetFits CountedNet arrays_of and_read
      recording_none told sixteen =
          let whole : Whole_net ≡ came (record { totals = totals_of totals; counts = counts; next = at + 1 }) here =
          one_more some ∙ rw (unjoined, read_good flagged told) refl in
          let b = so_far.bounded in
          rw whole (
            (refl, refl),
            (
              record {
                cost = omega (arith, b.cost, so_far.few);
                added = omega (arith, b.added, so_far.few);
                penalties = omega (arith, b.penalties, so_far.few);
                joined = omega (arith, so_far.joined);
                reach = omega (arith, b.reach, so_far.few, some);
              },
              (refl, (refl, fit_under _ so_far.small (omega arith))),
            ),
          )

      module _ (told : flag ≡ Ok true) where
        -- the whole is this join, and the rest
        joined_whole : Whole_net ≡ after_join_lem (join_from B (tech_by tech) view net (at + 1) here)
        unfolding and_read
        joined_whole = one_more some ∙ rw (unjoined, read_good flagged told) refl

        -- a join that is refused
        pub recording_refused : (r : Result JoinedStruct Refused) {e : Refused} {left-codes : List ℕ} → IsJoin r (join_from B (tech_by tech) view net (at + 1) here)
            → r ≡ Err e → left-codes ≡ (arrays_of (join_from B (tech_by tech) view net (at + 1) here)).codes
            → (left-counts : List ℕ) → Answers (Err e) left-codes left-counts
        unfolding IsNet NetFits CountedNet IsJoin arrays_of and_on
        recording_refused r {e} {left-codes} is refusing laid left-counts = by (join_from B (tech_by tech) view net (at + 1) here) refl (rw refusing at is) laid
          where
            by : (x : Came Joined) → join_from B (tech_by tech) view net (at + 1) here ≡ x → IsJoin (Err e) x → left-codes ≡ (arrays_of x).codes
                → Answers (Err e) left-codes left-counts
            by (stopped n p after) is-x h k = rw (joined_whole ∙ ap after_join_lem is-x) (h, (tt, (k, tt)))
            by (came joined after) is-x h k = absurd h

        -- a join, and the totals with it
        pub recording_on : TechFits tech → AllBelow 2 B → (r : Result JoinedStruct Refused) {j : JoinedStruct} {more-spots more-codes : List ℕ} {more : TotalsStruct}
            → IsJoin r (join_from B (tech_by tech) view net (at + 1) here) → JoinFits (at + 1 + 2 ^ 22) r → r ≡ Ok j
            → more-spots ≡ (arrays_of (join_from B (tech_by tech) view net (at + 1) here)).spots
            → more-codes ≡ (arrays_of (join_from B (tech_by tech) view net (at + 1) here)).codes
            → more ≡ record { cost = totals.cost + j.walk.cost; added = totals.added + j.walk.added; penalties = totals.penalties + j.walk.penalties; joined = totals.joined }
            → (more-counts : List ℕ) → CountedJoin B (tech_by tech) view (at + 1) (join_from B (tech_by tech) view net (at + 1) here) counts more-counts
            → Recording more-spots more-codes more-counts more j.next (done + 1)
        unfolding IsJoin JoinFits CountedJoin arrays_of and_on with_join
        recording_on fits below r {j} {more-spots} {more-codes} {more} is small joining put laid summed more-counts tallied =
            by (join_from B (tech_by tech) view net (at + 1) here) refl (rw joining at is) put laid tallied
          where
            kept : length (arrays_of (join_from B (tech_by tech) view net (at + 1) here)).codes ≡ length codes
            kept = (join_kept B below view net fits.good (at + 1) here).size

            fit : WalkFits j.walk × (j.next ≤ at + 1 + 2 ^ 22)
            fit = rw joining at small

            by : (x : Came Joined) → join_from B (tech_by tech) view net (at + 1) here ≡ x → IsJoin (Ok j) x → more-spots ≡ (arrays_of x).spots
                → more-codes ≡ (arrays_of x).codes → CountedJoin B (tech_by tech) view (at + 1) x counts more-counts
                → Recording more-spots more-codes more-counts more j.next (done + 1)
            by (stopped m q after) e h k l c = absurd h
            by (came joined after) e (walk, nexts) k l (sums, few) =
                let b = so_far.bounded in
                let total : with_join (totals_of totals) joined.gone.made ≡ totals_of more =
                rw summed (λ i. record {
                  cost = totals.cost + sym walk.cost i;
                  added = totals.added + sym walk.added i;
                  penalties = totals.penalties + sym walk.penalties i;
                  joined = totals.joined;
                }) in
                let arrays : after ≡ record { spots = more-spots; codes = more-codes } = λ i. record { spots = sym k i; codes = sym l i } in
                record {
                  same =
                      joined_whole ∙ ap after_join_lem e
                      ∙ (λ i. net_from B (tech_by tech) view net pins (count - (done + 1)) (sym nexts i) (total i) (sym sums i) (arrays i));
                  bounded = rw summed (record {
                    cost = omega (arith, b.cost, fit.0.cost, so_far.few, some);
                    added = omega (arith, b.added, fit.0.added, so_far.few, some);
                    penalties = omega (arith, b.penalties, fit.0.penalties, so_far.few, some);
                    joined = omega (arith, so_far.joined);
                    reach = omega (arith, b.reach, fit.1, so_far.few, some);
                  });
                  joined = rw summed so_far.joined;
                  few = omega (arith, some);
                  size = ap length l ∙ sym (ap (λ (y : Came Joined). length (arrays_of y).codes) e) ∙ kept ∙ so_far.size;
                  small = rw nexts few;
                }
