-- Turns of routing a net's records: what has been routed, from before the first record to where none is left.
--     with_entries                        entries before those that follow
--     Told, Recording                     what has been routed, and that the rest gives the whole
--     recording_begun                     before the first record
--     recording_joined, recording_done    every pin is joined; no record is left
use Prim.Native.Nat.{ℕ, suc, ◌+◌, ◌-◌, ◌*◌, ◌≤◌}
use mathlib.Core.Path.{◌≡◌, refl, ap, ◌∙◌}
use mathlib.Core.List.{List, [], ◌++◌, append-nil, flat_map}
use mathlib.Core.Bool.{false}
use native.Mathlib.Omega.{arith}
use lib.ListN.{length}
use Rattle.bits.specs.Puts.{put_bits}
use Rattle.job.specs.Grid.{vertices}
use Rattle.job.specs.Job.{Job}
use Rattle.rules.specs.Views.{View}
use Rattle.rules.specs.Standings.{Standing}
use Rattle.rules.specs.Routings.{Entry, with_net, Routed, route_net}
use Rattle.rules.specs.declared.price.Tech.{Tech as TechStruct}
use Rattle.rules.specs.declared.totals.Totals.{Totals as TotalsStruct}
use Rattle.plan.specs.Entries.{entry_bits}
use Rattle.metal.specs.Codes.{Beyond}
use Rattle.metal.proofs.Slices.{beyond_refl}
use Rattle.tree.specs.Spots.{some_unjoined}
use Rattle.tree.proofs.Spots.{some_none}
use Rattle.walker.specs.Entering.{Arrays}
use Rattle.walker.specs.Standing.{AtNet}
use Rattle.walker.specs.Structs.{totals_of, Bounded}
use Rattle.routing.specs.Structs.{NetHere, IsRouted}
use Rattle.routing.specs.declared.routed.Routed.{Routed as RoutedStruct}
use Rattle.rules.proofs.Routes.{route_all}

-- entries before those that follow
unfoldable pub with_entries : List Entry → Routed → Routed
with_entries es r = record { entries = es ++ r.entries; metal = r.metal; totals = r.totals }

module _ (tech : TechStruct) (view : View) (net : ℕ) (pins : List ℕ) (count from : ℕ) (before : TotalsStruct) (first : Arrays) (found : List ℕ) where
  -- at most so many records of net k are left: the rest from what stands now gives the whole, and the plan
  -- holds what is done
  pub record Told (j : Job) (k : ℕ) (s : Standing) (spots codes plan : List ℕ) (totals : TotalsStruct) (bits left : ℕ) : Type 0 where
    pub now : Standing
    pub here : AtNet j k view pins now (record { spots = spots; codes = codes })
    pub done : List Entry
    pub same : route_net j k count s (totals_of before) ≡ with_entries done (route_net j k left now (totals_of totals))
    pub put : plan ≡ put_bits found from (entry_bits j.grid done)
    pub next : bits ≡ from + length (entry_bits j.grid done)
    pub kept : Beyond (vertices j.grid) codes first.codes

  -- so it is of every job, net and standing that the code's arrays may be of; and the totals are small
  pub record Recording (spots codes plan : List ℕ) (totals : TotalsStruct) (bits left : ℕ) : Type 0 where
    pub told : (j : Job) (k : ℕ) (s : Standing) → NetHere j k s tech view net pins first → Told j k s spots codes plan totals bits left
    pub bounded : Bounded (16 * net + (count - left)) totals bits
    pub joined : totals.joined ≤ 16 * net
    pub few : left ≤ count
    pub size : length codes ≡ length first.codes
    pub long : length plan ≡ length found

  -- before the first record
  pub recording_begun : Bounded (16 * net) before from → Recording first.spots first.codes found before from count
  unfolding with_entries flat_map put_bits
  recording_begun b =
      let none : 16 * net + (count - count) ≡ 16 * net = omega arith in
      record {
        told = λ j k s h. record {
          now = s;
          here = h.here;
          done = [];
          same = refl;
          put = refl;
          next = omega arith;
          kept = beyond_refl _ _;
        };
        bounded = rw none b;
        joined = b.joined;
        few = omega arith;
        size = refl;
        long = refl;
      }

  -- what the code answers
  abbrev pub Answers : RoutedStruct → (plan codes : List ℕ) → Type 0
  Answers r plan codes =
      ((j : Job) (k : ℕ) (s : Standing) → NetHere j k s tech view net pins first
      → IsRouted j (route_net j k count s (totals_of before)) from r found plan first.codes codes) × Bounded (16 * net + 16) r.totals r.bits

  module _ {spots codes plan : List ℕ} {totals : TotalsStruct} {bits left : ℕ} (so_far : Recording spots codes plan totals bits left) (sixteen : count ≤ 16) where
    -- every pin is joined, so the net is
    net_ends : {ended : TotalsStruct} → ended ≡ record { cost = totals.cost; added = totals.added; penalties = totals.penalties; joined = totals.joined + 1 }
        → ((j : Job) (k : ℕ) (s : Standing) (h : NetHere j k s tech view net pins first)
        → route_net j k left (so_far.told j k s h).now (totals_of totals)
        ≡ record { entries = []; metal = (so_far.told j k s h).now.metal; totals = with_net (totals_of totals) })
        → Answers (record { totals = ended; bits = bits }) plan codes
    unfolding with_entries with_net
    net_ends is all =
        let b = so_far.bounded in
        let one : totals.joined + 1 ≡ suc totals.joined = omega arith in
        rw is (
          λ j k s h.
              let t = so_far.told j k s h in
              let whole = t.same ∙ ap (with_entries t.done) (all j k s h) in
              let nil : t.done ++ [] ≡ t.done = append-nil t.done in
              rw whole (record {
                totals = λ i. record { cost = totals.cost; added = totals.added; penalties = totals.penalties; joined = one i };
                next = rw nil t.next;
                bits = rw nil t.put;
                coded = t.here.stood.codes;
                kept = t.kept;
              }),
          record {
            cost = omega (arith, b.cost, so_far.few);
            added = omega (arith, b.added, so_far.few);
            penalties = omega (arith, b.penalties, so_far.few);
            joined = omega (arith, so_far.joined);
            reach = omega (arith, b.reach, so_far.few);
          },
        )

    -- every pin is joined
    pub recording_joined : some_unjoined spots pins ≡ false → {ended : TotalsStruct}
        → ended ≡ record { cost = totals.cost; added = totals.added; penalties = totals.penalties; joined = totals.joined + 1 }
        → Answers (record { totals = ended; bits = bits }) plan codes
    recording_joined ended is =
        net_ends is (λ j k s h.
        let t = so_far.told j k s h in
        route_all j k left t.now (totals_of totals)
        (some_none j.grid t.now.tree t.now.unjoined pins spots t.here.apart.no_goal h.below t.here.among t.here.stood.spots ended))

    -- no record is left
    pub recording_done : left ≤ 0 → {ended : TotalsStruct}
        → ended ≡ record { cost = totals.cost; added = totals.added; penalties = totals.penalties; joined = totals.joined + 1 }
        → Answers (record { totals = ended; bits = bits }) plan codes
    unfolding route_net
    recording_done over is = let no_record : left ≡ 0 = omega arith in net_ends is (λ j k s h. rw no_record refl)
