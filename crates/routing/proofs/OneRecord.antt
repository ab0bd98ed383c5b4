-- One record more of a net: it says none, or is a join.
--     entries_put                    an entry more in the plan's bits
--     Says                           what the search says of the record
--     none_routed, recording_none    the record says none, and the net is done
--     join_told, recording_on        the record is a join, and the rest follows
use Prim.Native.Nat.{ℕ, zero, suc, ◌+◌, ◌-◌, ◌*◌, ◌^◌, ◌≤◌, ◌<◌}
use mathlib.Core.Path.{◌≡◌, refl, sym, ap, subst, ◌∙◌}
use mathlib.Core.List.{List, [], ◌∷◌, ◌++◌, append_assoc, append-nil, flat_map}
use mathlib.Core.Bool.{true}
use native.Mathlib.Omega.{arith}
use lib.ListN.{length, length-append}
use Rattle.bits.specs.Bits.{field_bits}
use Rattle.bits.specs.Puts.{put_bits}
use Rattle.bits.proofs.Laws.{length-field_bits, put_bits-append}
use Rattle.job.specs.Grid.{Grid}
use Rattle.job.specs.Job.{Job}
use Rattle.job.proofs.TwoWay.Places.{widths, length-group_bits}
use Rattle.job.proofs.TwoWay.Widths.{concat_bits}
use Rattle.rules.specs.Views.{View, view_of}
use Rattle.rules.specs.Prices.{Tech, tech_of}
use Rattle.rules.specs.Standings.{Standing, joined_by}
use Rattle.rules.specs.Apart.{Apart}
use Rattle.rules.specs.Joins.{Record, join, none, join_of}
use Rattle.rules.specs.Walks.{Walked}
use Rattle.rules.specs.Routings.{Entry, Totals, with_join, Routed, with_entry, after_join, by_record, route_net}
use Rattle.rules.specs.Structs.{tech_by}
use Rattle.rules.specs.declared.price.Tech.{Tech as TechStruct}
use Rattle.rules.specs.declared.totals.Totals.{Totals as TotalsStruct}
use Rattle.plan.specs.Layout.{record_bits}
use Rattle.plan.specs.Entries.{entry_bits}
use Rattle.plan.proofs.Entries.{entries_append}
use Rattle.metal.proofs.Slices.{beyond_trans}
use Rattle.tree.specs.Spots.{Spots, some_unjoined}
use Rattle.tree.proofs.Spots.{some_one}
use Rattle.walker.specs.Entering.{Arrays, gone_at, Entered, entered, enter_all, left_in}
use Rattle.walker.specs.Standing.{AtNet}
use Rattle.walker.specs.Structs.{IsEntered, WalkFits, totals_of}
use Rattle.joins.specs.Joined.{left_by, IsJoined, JoinedFits, Written}
use Rattle.joins.specs.declared.join.Joined.{Joined}
use Rattle.std.proofs.Common.{Option, Some, None}
use Rattle.routing.specs.Structs.{NetHere, IsRouted}
use Rattle.routing.specs.declared.routed.Routed.{Routed as RoutedStruct}
use Rattle.rules.proofs.Routes.{route_more}
use Rattle.routing.proofs.Joins.{join_made}
use Rattle.routing.proofs.Records.{with_entries, Told, Recording, Answers}

-- an entry before them is one at the end of those before
entries_entry : (es : List Entry) (e : Entry) (r : Routed) → with_entries es (with_entry e r) ≡ with_entries (es ++ (e ∷ [])) r
unfolding with_entries with_entry
entries_entry es e r = λ i. record { entries = sym (append_assoc es (e ∷ []) r.entries) i; metal = r.metal; totals = r.totals }

-- how many bits a join takes
join_bits_lem : (g : Grid) (start : ℕ) (moves : List ℕ) (cost : ℕ) → length (record_bits g (join start moves cost)) ≡ 2 * length moves + 80
unfolding record_bits widths
join_bits_lem g start moves cost =
    rw (length-append, length-append, length-group_bits, length-field_bits, concat_bits (field_bits 2) 2 (length-field_bits 2) moves) (omega arith)

-- an entry more in the plan's bits
entries_put : (g : Grid) (es : List Entry) (e : Entry) (found : List ℕ) (from : ℕ) {plan longer : List ℕ} {bits : ℕ}
    → plan ≡ put_bits found from (entry_bits g es) → bits ≡ from + length (entry_bits g es) → longer ≡ put_bits plan bits (record_bits g e.written)
    → (longer ≡ put_bits found from (entry_bits g (es ++ (e ∷ []))))
    × (bits + length (record_bits g e.written) ≡ from + length (entry_bits g (es ++ (e ∷ []))))
unfolding flat_map
entries_put g es e found from put next more =
    let own : entry_bits g (es ++ (e ∷ [])) ≡ entry_bits g es ++ record_bits g e.written =
    entries_append g es (e ∷ []) ∙ ap (λ (bs : List ℕ). entry_bits g es ++ bs) (append-nil (record_bits g e.written)) in
    rw own (
      more ∙ (λ i. put_bits (put i) (next i) (record_bits g e.written)) ∙ sym (put_bits-append found from (entry_bits g es) (record_bits g e.written)),
      omega (arith, next, length-append (entry_bits g es) (record_bits g e.written)),
    )

module _ (tech : TechStruct) (view : View) (net : ℕ) (pins : List ℕ) (count from : ℕ) (before : TotalsStruct) (first : Arrays) (found : List ℕ) where
  -- what is told, recorded and answered of this net
  abbrev NetTold : (j : Job) (k : ℕ) (s : Standing) (spots codes plan : List ℕ) (totals : TotalsStruct) (bits left : ℕ) → Type 0
  NetTold = Told tech view net pins count from before first found

  abbrev NetRecording : (spots codes plan : List ℕ) (totals : TotalsStruct) (bits left : ℕ) → Type 0
  NetRecording = Recording tech view net pins count from before first found

  abbrev NetAnswers : RoutedStruct → (plan codes : List ℕ) → Type 0
  NetAnswers = Answers tech view net pins count from before first found

  module _ {spots codes plan : List ℕ} {totals : TotalsStruct} {bits left : ℕ} (so_far : NetRecording spots codes plan totals bits left) (sixteen : count ≤ 16)
      (some : 0 < left) (unjoined : some_unjoined spots pins ≡ true) (answer : Option Joined) (spots' codes' plan' : List ℕ) where
    -- what the search says of a record, with the layers that the code holds
    abbrev Says : Tech → Type 0
    Says t =
        (tree unjoined : List ℕ) → Spots t.grid tree unjoined spots → Apart t tree unjoined
        → Written t view net bits (record { spots = spots; codes = codes }) plan answer (join_of t view tree unjoined) spots' codes' plan'

    module _ (says : Says (tech_by tech)) (j : Job) (k : ℕ) (s : Standing) (h : NetHere j k s tech view net pins first) where
      abbrev t : NetTold j k s spots codes plan totals bits left
      t = so_far.told j k s h

      abbrev arrays : Arrays
      arrays = record { spots = spots; codes = codes }

      -- the record
      abbrev written : Record
      written = join_of (tech_of j) view t.now.tree t.now.unjoined

      abbrev entry : Record → Entry
      entry r = record { net = k; before = t.now; written = r }

      -- what the search says of it
      said : Written (tech_of j) view net bits arrays plan answer written spots' codes' plan'
      unfolding tech_of
      said = subst Says h.layers says t.now.tree t.now.unjoined t.here.stood.spots t.here.apart

      -- the whole is this record, and the rest
      one_more : route_net j k count s (totals_of before) ≡ with_entries t.done (by_record j k t.now (totals_of totals) (route_net j k (left - 1)) written)
      one_more = t.same ∙ ap (with_entries t.done) (by left some ∙ ap (λ (v : View). by_record j k t.now (totals_of totals) (route_net j k (left - 1))
          (join_of (tech_of j) v t.now.tree t.now.unjoined)) (sym t.here.sees))
        where
          by : (n : ℕ) → 0 < n → route_net j k n t.now (totals_of totals)
              ≡ by_record j k t.now (totals_of totals) (route_net j k (n - 1)) (join_of (tech_of j) (view_of j k t.now.metal) t.now.tree t.now.unjoined)
          by zero z = absurd (omega (arith, z))
          by (suc n) z =
              let less : suc n - 1 ≡ n = omega arith in
              rw less (route_more j k n t.now (totals_of totals)
              (some_one j.grid t.now.tree t.now.unjoined pins spots t.here.apart.no_goal h.below t.here.stood.spots unjoined))

      -- none
      none_routed : answer ≡ None → IsRouted j (route_net j k count s (totals_of before)) from (record { totals = totals; bits = bits + 1 }) found plan' first.codes codes'
      unfolding IsJoined left_by by_record with_entries record_bits tech_of put_bits
      none_routed told = by written refl (subst (λ (a : Option Joined). IsJoined (tech_of j) view net bits arrays a written) told said.joined)
        where
          by : (r : Record) → written ≡ r → IsJoined (tech_of j) view net bits arrays None r
              → IsRouted j (route_net j k count s (totals_of before)) from (record { totals = totals; bits = bits + 1 }) found plan' first.codes codes'
          by none e is =
              let whole = one_more ∙ ap (λ (r : Record). with_entries t.done (by_record j k t.now (totals_of totals) (route_net j k (left - 1)) r)) e in
              let more = entries_put j.grid t.done (entry none) found from t.put t.next
              (said.put ∙ ap (λ (r : Record). put_bits plan bits (record_bits j.grid r)) e) in
              let still : codes' ≡ codes = said.laid ∙ ap (λ (r : Record). (left_by (tech_of j) view net r arrays).codes) e in
              let wide = length-field_bits 1 0 in
              rw (whole, still) (record {
                totals = refl;
                next = omega (arith, more.1, wide);
                bits = more.0;
                coded = t.here.stood.codes;
                kept = t.kept;
              })
          by (join start moves cost) e is = absurd is

      -- a join
      join_told : {joined : Joined} {more : TotalsStruct} → answer ≡ Some joined
          → more ≡ record { cost = totals.cost + joined.walk.cost; added = totals.added + joined.walk.added; penalties = totals.penalties + joined.walk.penalties; joined = totals.joined }
          → NetTold j k s spots' codes' plan' more joined.next (left - 1)
      unfolding IsJoined left_by left_in IsEntered by_record with_entries with_join after_join tech_of put_bits
      join_told {joined} {more} told summed = by written refl (subst (λ (a : Option Joined). IsJoined (tech_of j) view net bits arrays a written) told said.joined)
        where
          by : (r : Record) → written ≡ r → IsJoined (tech_of j) view net bits arrays (Some joined) r → NetTold j k s spots' codes' plan' more joined.next (left - 1)
          by none e is = absurd is
          by (join start moves cost) e (nexts, walked) =
              let made = join_made h.rules k view pins t.now arrays t.here e in
              let enters : enter_all (tech_of j) view net moves (gone_at start) arrays ≡ entered (record { place = made.last; made = made.made }) made.left =
              ap (λ (n : ℕ). enter_all (tech_of j) view n moves (gone_at start) arrays) h.number ∙ made.enters in
              let walk = rw enters at walked in
              let total : with_join (totals_of totals) made.made ≡ totals_of more =
              rw summed (λ i. record {
                cost = totals.cost + sym walk.cost i;
                added = totals.added + sym walk.added i;
                penalties = totals.penalties + sym walk.penalties i;
                joined = totals.joined;
              }) in
              let spots-now : spots' ≡ made.left.spots =
              said.tree ∙ ap (λ (r : Record). (left_by (tech_of j) view net r arrays).spots) e ∙ ap (λ (x : Entered). (left_in arrays x).spots) enters in
              let codes-now : codes' ≡ made.left.codes =
              said.laid ∙ ap (λ (r : Record). (left_by (tech_of j) view net r arrays).codes) e ∙ ap (λ (x : Entered). (left_in arrays x).codes) enters in
              let arrays-now : made.left ≡ record { spots = spots'; codes = codes' } = λ i. record { spots = sym spots-now i; codes = sym codes-now i } in
              let put = entries_put j.grid t.done (entry (join start moves cost)) found from t.put t.next
              (said.put ∙ ap (λ (r : Record). put_bits plan bits (record_bits j.grid r)) e) in
              let stands = joined_by k t.now made.last.vertex made.made in
              let done = t.done ++ (entry (join start moves cost) ∷ []) in
              record {
                now = stands;
                here = subst (λ (a : Arrays). AtNet j k view pins stands a) arrays-now made.after;
                done = done;
                same =
                    one_more ∙ ap (λ (r : Record). with_entries t.done (by_record j k t.now (totals_of totals) (route_net j k (left - 1)) r)) e
                    ∙ ap (λ (x : Walked). with_entries t.done (with_entry (entry (join start moves cost)) (after_join k t.now (totals_of totals) (route_net j k (left - 1)) x))) made.walks
                    ∙ entries_entry t.done (entry (join start moves cost)) (route_net j k (left - 1) stands (with_join (totals_of totals) made.made))
                    ∙ ap (λ (z : Totals). with_entries done (route_net j k (left - 1) stands z)) total;
                put = put.0;
                next = omega (arith, nexts, put.1, join_bits_lem j.grid start moves cost);
                kept = rw codes-now (beyond_trans made.kept t.kept);
              }

    -- a record that says none
    pub recording_none : Says (tech_by tech) → answer ≡ None → NetAnswers (record { totals = totals; bits = bits + 1 }) plan' codes'
    recording_none says told =
        let b = so_far.bounded in (
          λ j k s h. none_routed says j k s h told,
          record {
            cost = omega (arith, b.cost, so_far.few);
            added = omega (arith, b.added, so_far.few);
            penalties = omega (arith, b.penalties, so_far.few);
            joined = omega (arith, so_far.joined);
            reach = omega (arith, b.reach, so_far.few, some);
          },
        )

    -- a join, and the totals with it
    pub recording_on : Says (tech_by tech) → JoinedFits (bits + 2 ^ 22) answer → length codes' ≡ length codes → length plan' ≡ length plan
        → {joined : Joined} {more : TotalsStruct} → answer ≡ Some joined
        → more ≡ record { cost = totals.cost + joined.walk.cost; added = totals.added + joined.walk.added; penalties = totals.penalties + joined.walk.penalties; joined = totals.joined }
        → NetRecording spots' codes' plan' more joined.next (left - 1)
    unfolding JoinedFits
    recording_on says fits size long {joined} told summed =
        let b = so_far.bounded in
        let fit : WalkFits joined.walk × (joined.next ≤ bits + 2 ^ 22) = rw told at fits in
        record {
          told = λ j k s h. join_told says j k s h told summed;
          bounded = rw summed (record {
            cost = omega (arith, b.cost, fit.0.cost, so_far.few, some);
            added = omega (arith, b.added, fit.0.added, so_far.few, some);
            penalties = omega (arith, b.penalties, fit.0.penalties, so_far.few, some);
            joined = omega (arith, so_far.joined);
            reach = omega (arith, b.reach, fit.1, so_far.few, some);
          });
          joined = rw summed so_far.joined;
          few = omega (arith, so_far.few);
          size = size ∙ so_far.size;
          long = long ∙ so_far.long;
        }
