-- The turns of reading a plan net by net.
--     net_answer       what the code answers of a net is what reading it by the definition comes to
--     net_counted      and so are the counts after it
--     Netting          what has been read, and that the rest gives the whole
use Prim.Native.Nat.{ℕ, suc, ◌+◌, ◌-◌, ◌*◌, ◌^◌, ◌≤◌, ◌<◌}
use mathlib.Core.Path.{◌≡◌, refl, sym, ap, subst, ◌∙◌}
use mathlib.Core.List.{List, [], ◌∷◌, ◌++◌, append_assoc, append-nil, flat_map}
use native.Mathlib.Omega.{arith}
use lib.ListN.{length, take, replicate}
use Rattle.bits.specs.Bits.{bits_of}
use Rattle.bits.specs.Puts.{AllBelow}
use Rattle.job.specs.Grid.{Grid, vertices}
use Rattle.job.specs.Job.{Net, Job}
use Rattle.job.specs.Reading.{Read, refused, good, ◌>>=◌, read_job}
use Rattle.job.specs.Structs.{grid_of}
use Rattle.job.specs.declared.refusal.Refused.{Refused}
use Rattle.reader.specs.Loading.{net_loaded, pins_loaded, boxes_loaded}
use Rattle.reader.specs.declared.load.NetLoaded.{NetLoaded}
use Rattle.rules.specs.Views.{View, view_of}
use Rattle.rules.specs.Standings.{Standing, metal_at_first, begun, joined_by}
use Rattle.rules.specs.Routings.{Entry, no_totals}
use Rattle.rules.specs.Structs.{tech_by}
use Rattle.rules.specs.declared.price.Tech.{Tech as TechStruct}
use Rattle.rules.specs.declared.totals.Totals.{Totals as TotalsStruct}
use Rattle.plan.specs.Reading.{Progress, read_net, read_nets}
use Rattle.plan.specs.Legal.{NetEntries, all_joined, gave_up, joins}
use Rattle.plan.proofs.NetRead.{net_good}
use Rattle.plan.proofs.Unjoined.{begun-length}
use Rattle.counts.specs.Counts.{Count, counted, plan_counts}
use Rattle.counts.specs.Structs.{CountsFit}
use Rattle.counts.proofs.Adding.{counted-append}
use Rattle.counts.proofs.PlanWorth.{counts_append}
use Rattle.metal.specs.Codes.{Beyond}
use Rattle.metal.proofs.Slices.{beyond_trans}
use Rattle.tree.specs.Spots.{begun_spots}
use Rattle.views.specs.Sight.{NetAtHand}
use Rattle.walker.specs.Structs.{totals_of, Bounded, NetsHeld}
use Rattle.walker.specs.Standing.{AtNet}
use Rattle.walker.proofs.Metals.{Later, later_none, later_more, later_on}
use Rattle.walker.proofs.Nets.{Nets, empty, nets_begun, rules, grid, nets_few, hand, own, own_below, own_pins_lem, own_count, first, at_net, one_on, nets_on}
use Rattle.replay.specs.Following.{Came, arrays_of, Ended, net_from}
use Rattle.replay.specs.Structs.{IsNet, CountedNet, NetFits, IsNets, CountedNets}
use Rattle.replay.specs.declared.net.Ended.{Ended as EndedStruct}
use Rattle.replay.proofs.Follow.{Follow, both_refused, both_good}
use Rattle.replay.proofs.NetFollow.{NetMeet, net_follow}
use Rattle.replay.proofs.Kept.{net_kept}
use Rattle.std.proofs.Common.{Result, Ok, Err}

-- what the code answers of a net is what reading it by the definition comes to
net_answer : (j : Job) (counts : List ℕ) (r : Result EndedStruct Refused) {x : Read Progress} (y : Came Ended) → Follow (NetMeet j counts) x y → IsNet r y
    → IsNets j.grid r x (arrays_of y).codes
unfolding IsNet IsNets arrays_of
net_answer j counts (Err refusal) y (both_refused e f) is =
    let (number, place) = rw f at is in
    e ∙ (λ i. refused (sym number i) (sym place i))
net_answer j counts (Err refusal) y (both_good e f m) is = absurd (rw f at is)
net_answer j counts (Ok read) y (both_refused e f) is = absurd (rw f at is)
net_answer j counts (Ok read) y (both_good {a = all} e f m) is =
    let (totals-same, next_same) = rw f at is in
    rw f (all, e, totals-same ∙ ap (λ (z : Ended). z.totals) m.0, next_same ∙ ap (λ (z : Ended). z.next) m.0, m.1)

-- and so are the counts after it
net_counted : (j : Job) (counts : List ℕ) {x : Read Progress} (y : Came Ended) (after : List ℕ) {all : Progress} → Follow (NetMeet j counts) x y → CountedNet y after
    → x ≡ good all → (after ≡ counted (plan_counts j all.entries) counts) × CountsFit (2 ^ 22 * all.at) after
unfolding CountedNet
net_counted j counts y after (both_refused e f) is good-x = let z : ◌≡◌ {A = ℕ} 0 1 = cc in absurd (omega arith)
net_counted j counts y after {all} (both_good {a = a} {b = ended} e f m) is good-x =
    let same : a ≡ all = cc in
    let (sums, few) = rw f at is in
    let ends = m.0 in
    rw (← same) (sums ∙ (λ i. (ends i).counts), subst (λ (n : ℕ). CountsFit (2 ^ 22 * n) after) (λ i. (ends i).next) few)

-- the records of a net leave the metal of the nets to come
net_metals : (j : Job) (k : ℕ) {s : Standing} {es : List Entry} {metal : List (List ℕ)} → NetEntries j k s es metal → Later k s.metal metal
unfolding joined_by
net_metals j k (all_joined all left) = later_none left
net_metals j k (gave_up some is left) = later_none left
net_metals j k {metal = metal} (joins {s = s} l is rest) =
    later_on (later_more k _ s.metal) (subst (λ (z : Standing). Later k z.metal metal) l.stands (net_metals j k rest))

-- entries before those of the nets that follow
unfoldable pub with_entries : List Entry → Progress → Progress
with_entries es p = record { entries = es ++ p.entries; metal = p.metal; totals = p.totals; at = p.at }

-- entries of one net, and of those before it
regroup : (es : List Entry) (all : Progress) (x : Read Progress)
    → ◌>>=◌ (◌>>=◌ x (λ rest. good (record { entries = all.entries ++ rest.entries; metal = rest.metal; totals = rest.totals; at = rest.at })))
    (λ p. good (with_entries es p)) ≡ ◌>>=◌ x (λ p. good (with_entries (es ++ all.entries) p))
unfolding ◌>>=◌ with_entries
regroup es all (refused n p) = refl
regroup es all (good rest) =
    λ i. good (record { entries = sym (append_assoc es all.entries rest.entries) i; metal = rest.metal; totals = rest.totals; at = rest.at })

-- what is read is good, or refused, with no entries before
none_before : (x : Read Progress) → x ≡ ◌>>=◌ x (λ p. good (with_entries [] p))
unfolding ◌>>=◌ with_entries
none_before (refused n p) = refl
none_before (good all) = refl

module _ (bytes : List ℕ) (tech : TechStruct) (occupants : List ℕ) (found B : List ℕ) (below : AllBelow 2 B) (counts₀ : List ℕ) where
  -- so many nets are left: the rest from here gives the whole
  pub record Netting (codes counts pins boxes : List ℕ) (position at : ℕ) (totals : TotalsStruct) (net left : ℕ) : Type 0 where
    pub count : ℕ
    pub start : ℕ
    pub held : NetsHeld bytes tech occupants found count start
    pub before : List Net
    pub after : List Net
    pub metal : List (List ℕ)
    pub nets : Nets bytes tech occupants found held before after metal codes pins boxes position net left
    pub entries : List Entry
    pub same : read_nets B held.job 0 held.job.nets (metal_at_first held.job) no_totals 0
        ≡ ◌>>=◌ (read_nets B held.job (length before) after metal (totals_of totals) at) (λ p. good (with_entries entries p))
    pub bounded : Bounded (16 * net + 16) totals at
    pub tallied : counts ≡ counted (plan_counts held.job entries) counts₀
    pub small : CountsFit (2 ^ 22 * at) counts

  -- before the first net
  pub netting_begun : {count start : ℕ} {pins boxes : List ℕ} → NetsHeld bytes tech occupants found count start → length pins ≡ 16 → length boxes ≡ 90
      → {totals : TotalsStruct} → totals ≡ record { cost = 0; added = 0; penalties = 0; joined = 0 } → CountsFit 0 counts₀
      → Netting found counts₀ pins boxes start 0 totals 0 count
  unfolding no_totals flat_map counted
  netting_begun {count} {start} held sixteen ninety none small =
      rw none (record {
        count = count;
        start = start;
        held = held;
        before = [];
        after = held.job.nets;
        metal = metal_at_first held.job;
        nets = nets_begun bytes tech occupants found held sixteen ninety;
        entries = [];
        same = none_before _;
        bounded = record { cost = omega arith; added = omega arith; penalties = omega arith; joined = omega arith; reach = omega arith };
        tallied = refl;
        small = small;
      })

  module _ {codes counts pins boxes : List ℕ} {position at : ℕ} {totals : TotalsStruct} {net left : ℕ}
      (so_far : Netting codes counts pins boxes position at totals net left) where
    abbrev job : Job
    job = so_far.held.job

    abbrev k : ℕ
    k = length so_far.before

    -- the code's grid is the job's
    same_grid : grid_of tech.grid ≡ job.grid
    same_grid = grid bytes tech occupants found so_far.held

    module _ (some : 0 < left) {loaded : NetLoaded} {pins' boxes' : List ℕ} (isLoaded : loaded ≡ net_loaded (bits_of bytes) position)
        (isPins : pins' ≡ pins_loaded (bits_of bytes) (grid_of tech.grid) position pins) (isBoxes : boxes' ≡ boxes_loaded (bits_of bytes) position boxes)
        (view : View) (sees : (j : Job) (i : ℕ) (metal : List (List ℕ)) → grid_of tech.grid ≡ j.grid → net + 1 ≡ suc i
        → NetAtHand j i metal occupants codes pins' boxes' loaded.pins loaded.boxes → view ≡ view_of j i metal) where
      -- the nets after the one at hand
      abbrev others : List Net
      others = (hand bytes tech occupants found so_far.held so_far.nets some).1

      -- its pins, by number
      abbrev pins_own : List ℕ
      pins_own = own bytes tech occupants found so_far.held so_far.nets some

      -- what is known before its first record
      at_first : AtNet job k view pins_own (begun pins_own so_far.metal) (first bytes tech occupants found so_far.held so_far.nets some isLoaded isPins isBoxes)
      at_first = at_net bytes tech occupants found so_far.held so_far.nets some isLoaded isPins isBoxes view sees

      -- what reading its records comes to, by the definition and with arrays
      abbrev this : Read Progress
      this = read_net B job k (length pins_own) (begun pins_own so_far.metal) (totals_of totals) at

      abbrev records : Came Ended
      records =
          net_from B (tech_by tech) view (net + 1) (take loaded.pins pins') loaded.pins at (totals_of totals) counts
          (record { spots = begun_spots (take loaded.pins pins') (replicate 16384 0); codes = codes })

      -- they follow each other
      follows : Follow (NetMeet job counts) this records
      follows =
          let number : net + 1 ≡ suc k = omega (arith, so_far.nets.number) in
          rw (
            own_pins_lem bytes tech occupants found so_far.held so_far.nets some isLoaded isPins isBoxes,
            so_far.held.layers,
            number,
            own_count bytes tech occupants found so_far.held so_far.nets some isLoaded isPins isBoxes,
          )
          (net_follow B below (rules bytes tech occupants found so_far.held) k view pins_own (own_below bytes tech occupants found so_far.held so_far.nets some)
          (length pins_own) (begun pins_own so_far.metal) (totals_of totals) counts at _ at_first)

      -- the whole is this net, and the rest
      abbrev after_this : Read Progress → Read Progress
      after_this x =
          ◌>>=◌ (◌>>=◌ x (λ all. ◌>>=◌ (read_nets B job (suc k) others all.metal all.totals all.at) (λ rest.
          good (record { entries = all.entries ++ rest.entries; metal = rest.metal; totals = rest.totals; at = rest.at }))))
          (λ p. good (with_entries so_far.entries p))

      one_net : read_nets B job 0 job.nets (metal_at_first job) no_totals 0 ≡ after_this this
      unfolding read_nets
      one_net =
          so_far.same ∙ ap (λ (ns : List Net). ◌>>=◌ (read_nets B job k ns so_far.metal (totals_of totals) at) (λ p. good (with_entries so_far.entries p)))
          (hand bytes tech occupants found so_far.held so_far.nets some).2

      -- past the grid the map is as found
      kept_on : Beyond (vertices job.grid) (arrays_of records).codes found
      unfolding tech_by
      kept_on =
          beyond_trans (subst (λ (g : Grid). Beyond (vertices g) (arrays_of records).codes codes) same_grid
          (net_kept B below view (net + 1) so_far.held.fits.good (take loaded.pins pins') loaded.pins at (totals_of totals) counts _)) so_far.nets.kept

      module _ (r : Result EndedStruct Refused) {codes' : List ℕ} (counts' : List ℕ) (is : IsNet r records) (left-codes : codes' ≡ (arrays_of records).codes)
          (sums : CountedNet records counts') where
        -- what the code answers of it
        answers : IsNets job.grid r this codes'
        answers = rw left-codes (net_answer job counts r records follows is)

        -- past the grid the map is as found
        pub netting_kept : Beyond (vertices (grid_of tech.grid)) codes' found
        netting_kept = rw (same_grid, left-codes) kept_on

        -- a net that is refused
        pub netting_refused : {e : Refused} → r ≡ Err e → (j : Job) → read_job bytes ≡ good j
            → IsNets (grid_of tech.grid) (Err e) (read_nets B j 0 j.nets (metal_at_first j) no_totals 0) codes'
            × CountedNets j (read_nets B j 0 j.nets (metal_at_first j) no_totals 0) counts₀ counts'
        unfolding IsNets CountedNets ◌>>=◌
        netting_refused told j read =
            let same : job ≡ j = cc so_far.held.read in
            let e : this ≡ _ = rw told at answers in
            let whole : read_nets B job 0 job.nets (metal_at_first job) no_totals 0 ≡ refused _ _ = one_net ∙ ap after_this e in
            rw (← same) (whole, rw whole tt)

        -- a net that is read
        pub netting_on : {ended : EndedStruct} → r ≡ Ok ended → NetFits (16 * (net + 1) + 16) r → {others-left : ℕ} → others-left ≡ left - 1
            → Netting codes' counts' pins' boxes' loaded.next ended.next ended.totals (net + 1) others-left
        unfolding IsNets NetFits read_nets ◌>>=◌
        netting_on told fits one_less =
            let (all, e, totals-same, next_same, coded) = rw told at answers in
            let (own-counts, few) = net_counted job counts records counts' follows sums e in
            let many = one_on bytes tech occupants found so_far.held so_far.nets some isLoaded isPins isBoxes in
            let metals = net_metals job k (net_good B below (rules bytes tech occupants found so_far.held) k (length pins_own) (begun pins_own so_far.metal) (totals_of totals) at all
            at_first.apart (begun-length pins_own so_far.metal) e).entries in
            record {
              count = so_far.count;
              start = so_far.start;
              held = so_far.held;
              before = so_far.before ++ ((hand bytes tech occupants found so_far.held so_far.nets some).0 ∷ []);
              after = others;
              metal = all.metal;
              nets = rw one_less (nets_on bytes tech occupants found so_far.held so_far.nets some isLoaded isPins isBoxes metals coded (rw left-codes kept_on));
              entries = so_far.entries ++ all.entries;
              same =
                  one_net ∙ ap after_this e ∙ regroup so_far.entries all (read_nets B job (suc k) others all.metal all.totals all.at)
                  ∙ (λ i. ◌>>=◌ (read_nets B job (sym many i) others all.metal (sym totals-same i) (sym next_same i))
                  (λ p. good (with_entries (so_far.entries ++ all.entries) p)));
              bounded = rw told at fits;
              tallied =
                  own-counts ∙ ap (counted (plan_counts job all.entries)) so_far.tallied
                  ∙ sym (ap (λ (cs : List Count). counted cs counts₀) (counts_append job so_far.entries all.entries)
                  ∙ counted-append (plan_counts job so_far.entries) (plan_counts job all.entries) counts₀);
              small = rw next_same few;
            }

    -- no net is left
    pub netting_done : left ≤ 0 → (j : Job) → read_job bytes ≡ good j
        → IsNets (grid_of tech.grid) (Ok (record { totals = totals; next = at })) (read_nets B j 0 j.nets (metal_at_first j) no_totals 0) codes
        × CountedNets j (read_nets B j 0 j.nets (metal_at_first j) no_totals 0) counts₀ counts
    unfolding IsNets CountedNets read_nets ◌>>=◌ with_entries
    netting_done none j read =
        let same : job ≡ j = cc so_far.held.read in
        let no-net : so_far.after ≡ [] = empty so_far.after (omega (arith, so_far.nets.rest)) in
        let all : Progress = with_entries so_far.entries (record { entries = []; metal = so_far.metal; totals = totals_of totals; at = at }) in
        let whole : read_nets B job 0 job.nets (metal_at_first job) no_totals 0 ≡ good all = so_far.same ∙ rw no-net refl in
        rw (← same, same_grid) ((all, whole, refl, refl, so_far.nets.coded), rw (whole, append-nil) so_far.tallied)

    -- the totals of all nets are small
    pub fits_all : NetFits {E = Refused} 4112 (Ok (record { totals = totals; next = at }))
    unfolding NetFits
    fits_all =
        let few = nets_few bytes tech occupants found so_far.held so_far.nets in
        let b = so_far.bounded in
        record {
          cost = omega (arith, b.cost);
          added = omega (arith, b.added);
          penalties = omega (arith, b.penalties);
          joined = omega (arith, b.joined);
          reach = omega (arith, b.reach);
        }

    -- the totals before the next net
    pub bounded_next : Bounded (16 * (net + 1)) totals at
    bounded_next = let more : 16 * (net + 1) ≡ 16 * net + 16 = omega arith in rw more so_far.bounded
