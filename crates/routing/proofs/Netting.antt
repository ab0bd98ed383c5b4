-- Turns of routing net by net.
--     net_metals                    the records of a net leave the metal of the nets to come
--     Netting, netting_begun        what has been routed, and that the rest gives the whole
--     netting_on                    a net more
--     netting_done                  no net is left
use Prim.Native.Nat.{ℕ, zero, suc, ◌+◌, ◌-◌, ◌*◌, ◌≤◌, ◌<◌}
use mathlib.Core.Path.{◌≡◌, refl, sym, ap, subst, ◌∙◌}
use mathlib.Core.List.{List, [], ◌∷◌, ◌++◌, append_assoc, append-nil, flat_map}
use native.Mathlib.Omega.{arith}
use lib.ListN.{length, take, replicate, length-append}
use Rattle.bits.specs.Bits.{bits_of}
use Rattle.bits.specs.Puts.{put_bits}
use Rattle.bits.proofs.Laws.{put_bits-append}
use Rattle.job.specs.Lists.{All}
use Rattle.job.specs.Grid.{vertices}
use Rattle.job.specs.Job.{Net, Job}
use Rattle.job.specs.Reading.{good, read_job}
use Rattle.job.specs.Structs.{grid_of}
use Rattle.reader.specs.Loading.{net_loaded, pins_loaded, boxes_loaded}
use Rattle.reader.specs.declared.load.NetLoaded.{NetLoaded}
use Rattle.rules.specs.Views.{View, view_of}
use Rattle.rules.specs.Prices.{tech_of}
use Rattle.rules.specs.Walks.{Walked, stuck, walked, start_at, walk}
use Rattle.rules.specs.Standings.{Standing, metal_at_first, begun, joined_by}
use Rattle.rules.specs.Joins.{Record, join, none, join_of}
use Rattle.rules.specs.Routings.{Entry, Totals, no_totals, with_join, with_net, Routed, with_entry, after_join, by_record, route_net, route_nets, routing}
use Rattle.rules.specs.declared.price.Tech.{Tech as TechStruct}
use Rattle.rules.specs.declared.totals.Totals.{Totals as TotalsStruct}
use Rattle.plan.specs.Entries.{entry_bits}
use Rattle.plan.proofs.Entries.{entries_append}
use Rattle.metal.proofs.Slices.{beyond_trans}
use Rattle.tree.specs.Spots.{begun_spots}
use Rattle.views.specs.Sight.{NetAtHand}
use Rattle.walker.specs.Standing.{AtNet}
use Rattle.walker.specs.Structs.{totals_of, Bounded, NetsHeld}
use Rattle.walker.proofs.Metals.{Later, later_none, later_more, later_on}
use Rattle.walker.proofs.Nets.{Nets, empty, nets_begun, rules, nets_few, hand, own, own_below, own_pins_lem, own_count, at_net, one_on, nets_on}
use Rattle.routing.specs.Structs.{NetHere, IsRouted}
use Rattle.routing.specs.declared.routed.Routed.{Routed as RoutedStruct}
use Rattle.routing.proofs.Records.{with_entries}

-- the records of a net leave the metal of the nets to come
net_metals : (j : Job) (k n : ℕ) (s : Standing) (totals : Totals) → Later k s.metal (route_net j k n s totals).metal
unfolding route_net by_record with_entry after_join joined_by
net_metals j k zero s totals = later_none refl
net_metals j k (suc n) s totals = by s.unjoined (net_metals j k n)
  where
    Rest : Type 0
    Rest = (s : Standing) (totals : Totals) → Later k s.metal (route_net j k n s totals).metal

    by_walk : Rest → (x : Walked) → Later k s.metal (after_join k s totals (route_net j k n) x).metal
    by_walk rest stuck = later_none refl
    by_walk rest (walked last made) = later_on (later_more k _ s.metal) (rest (joined_by k s last.vertex made) (with_join totals made))

    by_records : Rest → (r : Record) → Later k s.metal (by_record j k s totals (route_net j k n) r).metal
    by_records rest none = later_none refl
    by_records rest (join start moves cost) = by_walk rest (walk (tech_of j) (view_of j k s.metal) (start_at start) moves)

    routed : List ℕ → Routed
    routed u =
        elim u as (λ _. Routed) [
          | [] ↦ record { entries = []; metal = s.metal; totals = with_net totals }
          | p ∷ ps ↦ by_record j k s totals (route_net j k n) (join_of (tech_of j) (view_of j k s.metal) s.tree (p ∷ ps))
        ]

    by : (u : List ℕ) → Rest → Later k s.metal (routed u).metal
    by [] rest = later_none refl
    by (p ∷ ps) rest = by_records rest (join_of (tech_of j) (view_of j k s.metal) s.tree (p ∷ ps))

-- entries of one net, and of those before it
regroup : (xs ys : List Entry) (r : Routed) → with_entries xs (with_entries ys r) ≡ with_entries (xs ++ ys) r
unfolding with_entries
regroup xs ys r = λ i. record { entries = sym (append_assoc xs ys r.entries) i; metal = r.metal; totals = r.totals }

module _ (bytes : List ℕ) (tech : TechStruct) (occupants : List ℕ) (found planFound : List ℕ) where
  -- so many nets are left: the rest from here gives the whole, and the plan holds what is done
  pub record Netting (codes pins boxes plan : List ℕ) (position bits : ℕ) (totals : TotalsStruct) (net left : ℕ) : Type 0 where
    pub count : ℕ
    pub start : ℕ
    pub held : NetsHeld bytes tech occupants found count start
    pub before : List Net
    pub after : List Net
    pub metal : List (List ℕ)
    pub nets : Nets bytes tech occupants found held before after metal codes pins boxes position net left
    pub done : List Entry
    pub same : routing held.job ≡ with_entries done (route_nets held.job (length before) after metal (totals_of totals))
    pub put : plan ≡ put_bits planFound 0 (entry_bits held.job.grid done)
    pub next : bits ≡ length (entry_bits held.job.grid done)
    pub bounded : Bounded (16 * net + 16) totals bits
    pub long : length plan ≡ length planFound

  -- before the first net
  pub netting_begun : {count start : ℕ} {pins boxes : List ℕ} → NetsHeld bytes tech occupants found count start → length pins ≡ 16 → length boxes ≡ 90
      → {totals : TotalsStruct} → totals ≡ record { cost = 0; added = 0; penalties = 0; joined = 0 } → Netting found pins boxes planFound start 0 totals 0 count
  unfolding routing no_totals with_entries flat_map put_bits
  netting_begun {count} {start} held sixteen ninety zero-totals =
      rw zero-totals (record {
        count = count;
        start = start;
        held = held;
        before = [];
        after = held.job.nets;
        metal = metal_at_first held.job;
        nets = nets_begun bytes tech occupants found held sixteen ninety;
        done = [];
        same = refl;
        put = refl;
        next = refl;
        bounded = record { cost = omega arith; added = omega arith; penalties = omega arith; joined = omega arith; reach = omega arith };
        long = refl;
      })

  module _ {codes pins boxes plan : List ℕ} {position bits : ℕ} {totals : TotalsStruct} {net left : ℕ}
      (so_far : Netting codes pins boxes plan position bits totals net left) where
    abbrev job : Job
    job = so_far.held.job

    abbrev k : ℕ
    k = length so_far.before

    module _ (some : 0 < left) {loaded : NetLoaded} {pins' boxes' : List ℕ} (isLoaded : loaded ≡ net_loaded (bits_of bytes) position)
        (isPins : pins' ≡ pins_loaded (bits_of bytes) (grid_of tech.grid) position pins) (isBoxes : boxes' ≡ boxes_loaded (bits_of bytes) position boxes)
        (view : View) (sees : (j : Job) (i : ℕ) (metal : List (List ℕ)) → grid_of tech.grid ≡ j.grid → net + 1 ≡ suc i
        → NetAtHand j i metal occupants codes pins' boxes' loaded.pins loaded.boxes → view ≡ view_of j i metal) where
      -- the nets after the one at hand
      abbrev others : List Net
      others = (hand bytes tech occupants found so_far.held so_far.nets some).1

      -- its pins, by number
      abbrev pins_own : List ℕ
      pins_own = own bytes tech occupants found so_far.held so_far.nets some

      -- what stands before its first record
      abbrev stands : Standing
      stands = begun pins_own so_far.metal

      -- it is the net at hand
      net_here : NetHere job k stands tech view (net + 1) (take loaded.pins pins')
          (record { spots = begun_spots (take loaded.pins pins') (replicate 16384 0); codes = codes })
      net_here =
          let mine = sym (own_pins_lem bytes tech occupants found so_far.held so_far.nets some isLoaded isPins isBoxes) in
          record {
            rules = rules bytes tech occupants found so_far.held;
            layers = so_far.held.layers;
            number = omega (arith, so_far.nets.number);
            below = subst (λ (ps : List ℕ). All (λ v. v < vertices job.grid) ps) mine (own_below bytes tech occupants found so_far.held so_far.nets some);
            here = subst (λ (ps : List ℕ). AtNet job k view ps stands (record { spots = begun_spots ps (replicate 16384 0); codes = codes })) mine
                (at_net bytes tech occupants found so_far.held so_far.nets some isLoaded isPins isBoxes view sees);
          }

      -- its records
      abbrev this : Routed
      this = route_net job k (length pins_own) stands (totals_of totals)

      -- the whole is this net, and the rest
      one_net : routing job ≡ with_entries (so_far.done ++ this.entries) (route_nets job (suc k) others this.metal this.totals)
      unfolding route_nets with_entries
      one_net =
          so_far.same ∙ ap (λ (ns : List Net). with_entries so_far.done (route_nets job k ns so_far.metal (totals_of totals)))
          (hand bytes tech occupants found so_far.held so_far.nets some).2
          ∙ regroup so_far.done this.entries (route_nets job (suc k) others this.metal this.totals)

      -- after it
      pub netting_on : (r : RoutedStruct) {codes' plan' : List ℕ}
          → ((j : Job) (i : ℕ) (s : Standing) → NetHere j i s tech view (net + 1) (take loaded.pins pins')
          (record { spots = begun_spots (take loaded.pins pins') (replicate 16384 0); codes = codes })
          → IsRouted j (route_net j i loaded.pins s (totals_of totals)) bits r plan plan' codes codes')
          → Bounded (16 * (net + 1) + 16) r.totals r.bits → length plan' ≡ length plan
          → Netting codes' pins' boxes' plan' loaded.next r.bits r.totals (net + 1) (left - 1)
      netting_on r {codes'} {plan'} answer fits long =
          let many = own_count bytes tech occupants found so_far.held so_far.nets some isLoaded isPins isBoxes in
          let routed = subst (λ (n : ℕ). IsRouted job (route_net job k n stands (totals_of totals)) bits r plan plan' codes codes') many (answer job k stands net_here) in
          let one = one_on bytes tech occupants found so_far.held so_far.nets some isLoaded isPins isBoxes in
          let g = job.grid in
          let here : bits ≡ 0 + length (entry_bits g so_far.done) = omega (arith, so_far.next) in
          let more : entry_bits g (so_far.done ++ this.entries) ≡ entry_bits g so_far.done ++ entry_bits g this.entries = entries_append g so_far.done this.entries in
          record {
            count = so_far.count;
            start = so_far.start;
            held = so_far.held;
            before = so_far.before ++ ((hand bytes tech occupants found so_far.held so_far.nets some).0 ∷ []);
            after = others;
            metal = this.metal;
            nets = nets_on bytes tech occupants found so_far.held so_far.nets some isLoaded isPins isBoxes
                (net_metals job k (length pins_own) stands (totals_of totals)) routed.coded (beyond_trans routed.kept so_far.nets.kept);
            done = so_far.done ++ this.entries;
            same = one_net ∙ (λ i. with_entries (so_far.done ++ this.entries) (route_nets job (sym one i) others this.metal (sym routed.totals i)));
            put =
                routed.bits ∙ (λ i. put_bits (so_far.put i) (here i) (entry_bits g this.entries))
                ∙ sym (ap (put_bits planFound 0) more ∙ put_bits-append planFound 0 (entry_bits g so_far.done) (entry_bits g this.entries));
            next = omega (arith, routed.next, so_far.next, ap (λ (l : List ℕ). length l) more, length-append (entry_bits g so_far.done) (entry_bits g this.entries));
            bounded = fits;
            long = long ∙ so_far.long;
          }

    -- no net is left
    pub netting_done : left ≤ 0 → (j : Job) → read_job bytes ≡ good j
        → IsRouted j (routing j) 0 (record { totals = totals; bits = bits }) planFound plan found codes
    unfolding route_nets with_entries
    netting_done over j read =
        let same : job ≡ j = cc so_far.held.read in
        let no-net : so_far.after ≡ [] = empty so_far.after (omega (arith, so_far.nets.rest)) in
        let whole : routing job ≡ with_entries so_far.done (record { entries = []; metal = so_far.metal; totals = totals_of totals }) = so_far.same ∙ rw no-net refl in
        let nil : so_far.done ++ [] ≡ so_far.done = append-nil so_far.done in
        rw (← same, whole) (record {
          totals = refl;
          next = rw nil (omega (arith, so_far.next));
          bits = rw nil so_far.put;
          coded = so_far.nets.coded;
          kept = so_far.nets.kept;
        })

    -- the totals of all nets are small
    pub fits_all : Bounded 4112 totals bits
    fits_all =
        let few = nets_few bytes tech occupants found so_far.held so_far.nets in
        let b = so_far.bounded in
        record {
          cost = omega (arith, b.cost);
          added = omega (arith, b.added);
          penalties = omega (arith, b.penalties);
          joined = omega (arith, b.joined);
          reach = omega (arith, b.reach);
        }

    -- the totals before the next net
    pub bounded_next : Bounded (16 * (net + 1)) totals bits
    bounded_next = let more : 16 * (net + 1) ≡ 16 * net + 16 = omega arith in rw more so_far.bounded
