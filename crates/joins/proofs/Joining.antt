-- A record written, in the code's words.
--     record_put                     its fields and moves, put one after the other, are its bits
--     Told, start_led                the lowest start with a lead is a join's, and its route fits
--     written_none, written_first    of none, and of a join
--     written_joined                 the record is the join of what stands
use Prim.Native.Nat.{ℕ, ◌+◌, ◌*◌, ◌^◌, ◌<◌}
use mathlib.Core.Path.{◌≡◌, refl, sym, ap, subst, ◌∙◌}
use mathlib.Core.List.{List, [], ◌∷◌, ◌++◌, flat_map}
use native.Mathlib.Omega.{arith}
use lib.ListN.{length}
use Rattle.std.proofs.Common.{Option, Some, None}
use Rattle.bits.specs.Bits.{field_bits, group_bits}
use Rattle.bits.specs.Puts.{put_bits}
use Rattle.bits.proofs.Laws.{length-field_bits, put_bits-append}
use Rattle.job.specs.Grid.{Grid, vertices}
use Rattle.job.proofs.TwoWay.Places.{widths, length-group_bits}
use Rattle.job.proofs.TwoWay.Widths.{concat_bits}
use Rattle.rules.specs.Tracks.{layer_of, row_of, column_of}
use Rattle.rules.specs.Views.{View}
use Rattle.rules.specs.Prices.{Tech}
use Rattle.rules.specs.Apart.{Apart}
use Rattle.rules.specs.Joins.{Record, join, none, join_of}
use Rattle.rules.specs.Places.{GoodTech}
use Rattle.plan.specs.Layout.{record_bits}
use Rattle.tree.specs.Spots.{Spots}
use Rattle.walker.specs.Entering.{Arrays, gone_at, enter_all, left_in}
use Rattle.walker.specs.Structs.{WalkFits, IsEntered}
use Rattle.walker.specs.declared.Walk.{Walk}
use Rattle.search.specs.Charts.{Charted, lowest_led}
use Rattle.joins.specs.Traces.{route_by, join_by_spots}
use Rattle.joins.specs.Joined.{left_by, IsJoined, JoinedFits, Written}
use Rattle.joins.specs.declared.join.Joined.{Joined}
use Rattle.joins.proofs.Tracing.{start_on, route_short}
use Rattle.joins.proofs.Found.{found_join, found_led}

-- its fields and moves, put one after the other, are its bits
pub record_put : (g : Grid) (start cost : ℕ) (moves : List ℕ) (s : List ℕ) (at : ℕ) {count : ℕ} {a b c : List ℕ} → count ≡ length moves
    → a ≡ put_bits s at (group_bits ((1, 1) ∷ (3, layer_of g start) ∷ (8, row_of g start) ∷ (8, column_of g start) ∷ (20, count) ∷ []))
    → b ≡ put_bits a (at + 40) (flat_map (field_bits 2) moves) → c ≡ put_bits b (at + 40 + 2 * count) (field_bits 40 cost)
    → c ≡ put_bits s at (record_bits g (join start moves cost))
unfolding record_bits widths
record_put g start cost moves s at {count} counted first walked paid =
    let fields : List (ℕ × ℕ) = (1, 1) ∷ (3, layer_of g start) ∷ (8, row_of g start) ∷ (8, column_of g start) ∷ (20, length moves) ∷ [] in
    let bits = flat_map (field_bits 2) moves in
    let one : at + length (group_bits fields) ≡ at + 40 = ap (λ (n : ℕ). at + n) (length-group_bits fields) in
    let two : at + 40 + length bits ≡ at + 40 + 2 * count = rw (concat_bits (field_bits 2) 2 (length-field_bits 2) moves, counted) refl in
    paid ∙ (λ i. put_bits (walked i) (sym two i) (field_bits 40 cost)) ∙ sym (put_bits-append _ (at + 40) bits (field_bits 40 cost))
    ∙ (λ i. put_bits (rw counted at first i) (sym one i) (bits ++ field_bits 40 cost)) ∙ sym (put_bits-append s at (group_bits fields) (bits ++ field_bits 40 cost))

-- the start is a vertex, the join goes from there, and its route fits
pub record Told (t : Tech) (view : View) (spots : List ℕ) (start cost : ℕ) : Type 0 where
  pub below : start < vertices t.grid
  pub few : length (route_by t view spots start) < 2 ^ 20
  pub record_is : join_by_spots t view spots ≡ join start (route_by t view spots start) cost

pub start_led : (t : Tech) (view : View) (spots : List ℕ) {bounds work : List ℕ} {best start : ℕ} → GoodTech t → Charted t view spots bounds work best
    → start ≡ lowest_led t view spots work → Told t view spots start best
start_led t view spots good charted lowest =
    let below = (start_on t view spots charted good).0 in
    rw lowest (record { below = below; few = route_short t view spots good below; record_is = found_led t view spots good charted })

module _ (t : Tech) (view : View) (net at : ℕ) (arrays : Arrays) (plan : List ℕ) where
  -- none
  pub written_none : {r : Record} {longer : List ℕ} → r ≡ none → longer ≡ put_bits plan at (field_bits 1 0)
      → Written t view net at arrays plan None r arrays.spots arrays.codes longer
  unfolding IsJoined JoinedFits left_by record_bits
  written_none is put = rw is (record { joined = tt; fits = tt; tree = refl; laid = refl; put = put })

  -- a join
  pub written_first : {r : Record} {start cost : ℕ} {moves : List ℕ} {w : Walk} {count : ℕ} {spots codes longer : List ℕ} → r ≡ join start moves cost
      → length moves < 2 ^ 20 → count ≡ length moves → IsEntered w (enter_all t view net moves (gone_at start) arrays) → WalkFits w
      → spots ≡ (left_in arrays (enter_all t view net moves (gone_at start) arrays)).spots
      → codes ≡ (left_in arrays (enter_all t view net moves (gone_at start) arrays)).codes
      → longer ≡ put_bits plan at (record_bits t.grid (join start moves cost)) → Written t view net at arrays plan (Some (record { walk = w; next = at + 2 * count + 80 })) r spots codes longer
  unfolding IsJoined JoinedFits left_by
  written_first is few counted entered fits tree laid put =
      rw (is, counted) (record { joined = (refl, entered); fits = (fits, omega (arith, few)); tree = tree; laid = laid; put = put })

  -- what is told by the bytes is the join of what stands
  pub written_joined : (answer : Option Joined) {spots codes longer : List ℕ} → GoodTech t → Written t view net at arrays plan answer (join_by_spots t view arrays.spots) spots codes longer
      → (tree unjoined : List ℕ) → Spots t.grid tree unjoined arrays.spots → Apart t tree unjoined
      → Written t view net at arrays plan answer (join_of t view tree unjoined) spots codes longer
  written_joined answer {spots} {codes} {longer} good written tree unjoined led apart =
      subst (λ (r : Record). Written t view net at arrays plan answer r spots codes longer) (found_join t view arrays.spots good tree unjoined led apart) written
