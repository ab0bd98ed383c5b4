-- The moves of a place that is settled, in the code's words.
--     turn_on                                        one more move is tried
--     Trying, trying_begun, _now, _small, _on        the moves so far
--     distance_by                                    the cost by the key
use Prim.Native.Nat.{ℕ, suc, ◌+◌, ◌-◌, ◌*◌, ◌/◌, ◌≤◌, ◌<◌, min}
use mathlib.Core.Path.{◌≡◌, refl, ◌∙◌}
use mathlib.Core.List.{List}
use mathlib.Core.Bool.{Bool, true, false}
use native.Mathlib.Omega.{arith}
use lib.ListN.{get_or, set, length-set}
use lib.Dec.{eqb}
use Rattle.paths.specs.Systems.{Step, blocked, to, Legal}
use Rattle.rules.specs.Views.{View}
use Rattle.rules.specs.Segments.{Place}
use Rattle.rules.specs.Prices.{Tech}
use Rattle.rules.specs.Joins.{places}
use Rattle.rules.specs.Places.{place_code, GoodPlace, GoodTech, dearest_move}
use Rattle.rules.proofs.Places.{code_below, places_small}
use Rattle.metal.specs.Codes.{Beyond}
use Rattle.metal.proofs.Slices.{beyond_refl, beyond_by, beyond_trans}
use Rattle.heap.specs.Heaps.{most_items, Lowered}
use Rattle.bounds.specs.Bounds.{Bounding}
use Rattle.search.specs.Fronts.{system_by, left_at, costs}
use Rattle.search.specs.Lists.{Done}
use Rattle.search.specs.Bits.{with_move}
use Rattle.search.specs.Spreads.{keys, Turn, Reach}
use Rattle.search.proofs.Lawful.{lawful_by}
use Rattle.search.proofs.Laying.{laid_room, lowered_done, done_lowered, lowered_slots, laid_lower}
use Rattle.search.proofs.Costing.{costs_told, told_costs, nearer_by}
use Rattle.search.proofs.Spreading.{spread_stopped}
use Rattle.search.proofs.Easing.{eased_by, eased_told, eased_costs}
use Rattle.search.proofs.Relaxing.{spread_goes}
use Rattle.search.proofs.Finding.{spread_enters}

-- ---- one more move

module _ {t : Tech} {view : View} {spots bounds : List ℕ} (fine : GoodTech t) (bounding : Bounding t spots bounds) {near work : List ℕ} {size settled best item distance number : ℕ}
    (turn : Turn t view spots bounds near work size settled best item distance number) (few : number < 4) (some : 1 ≤ settled) {here : Place} (on : GoodPlace t here)
    (is_item : place_code t here ≡ item) (there : here.vertex < 16384) where
  -- the cost to the place
  here_cost : costs t bounds work item ≡ suc distance
  here_cost = told_costs t bounds work item turn.key

  -- it enters a goal
  turn_enters : {c : ℕ} {q : Place} → (system_by t view spots).step here number ≡ to c q → eqb (get_or spots q.vertex 0) 2 ≡ true
      → Turn t view spots bounds (set near here.vertex (with_move (get_or near here.vertex 0) number)) work size settled (min best (distance + c)) item distance (number + 1)
  turn_enters does g =
      record {
        laid = turn.laid;
        told = turn.told;
        spread = spread_enters view spots fine turn.spread on is_item turn.done here_cost (record { known = few; leads = does }) g (omega (arith, turn.bytes));
        known = turn.known;
        done = turn.done;
        key = turn.key;
        below = turn.below;
        plain = turn.plain;
        bytes = length-set near here.vertex _ ∙ turn.bytes;
      }

  -- it goes to another place
  turn_goes : {c now : ℕ} {q : Place} {after : List ℕ} → (system_by t view spots).step here number ≡ to c q → eqb (get_or spots q.vertex 0) 2 ≡ false
      → Lowered (places t) size (place_code t q) (16 * (distance + c) + left_at t bounds (place_code t q)) work after now
      → Turn t view spots bounds near after now settled best item distance (number + 1)
  turn_goes {c} {q = q} {after = after} does g w =
      let legal : Legal (system_by t view spots) here number c q = record { known = few; leads = does } in
      let next = code_below ((lawful_by view spots fine).keeps on legal) in
      let raw = eased_by w in
      let eased = eased_costs t bounds work after (place_code t q) (distance + c) next raw turn.told in
      let dear = (lawful_by view spots fine).limits on legal in
      let near_by : left_at t bounds item ≤ 15 * c + left_at t bounds (place_code t q) = rw is_item at (nearer_by view fine bounding on legal) in
      record {
        laid = laid_lower w turn.laid next (omega arith);
        told = eased_told t bounds work after (place_code t q) (distance + c) next raw turn.told;
        spread =
            spread_goes view spots fine turn.spread on is_item here_cost legal g (omega (arith, turn.below, some)) (order near_by next) eased
            (lowered_done w) (done_lowered w) turn.done;
        known = turn.known;
        done = lowered_done w item turn.known turn.done;
        key = raw.kept item turn.known turn.done ∙ turn.key;
        below = turn.below;
        plain = lowered_slots w turn.plain;
        bytes = turn.bytes;
      }
    where
      -- a settled place has no greater key, and so costs no more than by this move
      order : left_at t bounds item ≤ 15 * c + left_at t bounds (place_code t q) → place_code t q < places t → Done (places t) work (place_code t q)
          → costs t bounds work (place_code t q) ≤ suc (distance + c)
      order near_by next done =
          let there = turn.told (place_code t q) next done.touched in
          let key : keys work (place_code t q) ≡ suc (16 * (costs t bounds work (place_code t q) - 1) + left_at t bounds (place_code t q)) =
          costs_told t bounds work (place_code t q) (omega arith) in
          omega (arith, key, turn.laid.settled_low (place_code t q) next done)

  turn_on : (move : Step Place) → (system_by t view spots).step here number ≡ move → {size' best' : ℕ} {near' work' : List ℕ}
      → Reach t view spots bounds here distance number move size best near work size' best' near' work'
      → Turn t view spots bounds near' work' size' settled best' item distance (number + 1)
  turn_on blocked does r =
      let (same_size, same-best, same-near, same-work) = r.stopped refl in
      rw (same_size, same-best, same-near, same-work)
      (record {
        laid = turn.laid;
        told = turn.told;
        spread = spread_stopped view spots fine turn.spread on is_item does;
        known = turn.known;
        done = turn.done;
        key = turn.key;
        below = turn.below;
        plain = turn.plain;
        bytes = turn.bytes;
      })
  turn_on (to c q) does {size'} {best'} {near'} {work'} r = by (eqb (get_or spots q.vertex 0) 2) refl
    where
      by : (b : Bool) → eqb (get_or spots q.vertex 0) 2 ≡ b → Turn t view spots bounds near' work' size' settled best' item distance (number + 1)
      by true g =
          let (same_size, less, lit, same-work) = r.enters refl g in
          rw (same_size, less, lit, same-work) (turn_enters does g)
      by false g = let (w, same-best, same-near) = r.goes refl g in rw (same-best, same-near) (turn_goes does g w)

-- ---- the moves so far

-- past the needed part the slice is as found
reach_kept : {t : Tech} {view : View} {spots bounds : List ℕ} {here : Place} {distance number : ℕ} (move : Step Place) {size best : ℕ} {near work : List ℕ}
    {size' best' : ℕ} {near' work' : List ℕ} → Reach t view spots bounds here distance number move size best near work size' best' near' work'
    → Beyond (places t + places t) work' work
reach_kept blocked {work = work} r = let (same_size, same-best, same-near, same-work) = r.stopped refl in rw same-work (beyond_refl _ work)
reach_kept {t} {spots = spots} (to c q) {work = work} {work' = work'} r = by (eqb (get_or spots q.vertex 0) 2) refl
  where
    by : (b : Bool) → eqb (get_or spots q.vertex 0) 2 ≡ b → Beyond (places t + places t) work' work
    by true g = let (same_size, less, lit, same-work) = r.enters refl g in rw same-work (beyond_refl _ work)
    by false g = let (w, same-best, same-near) = r.goes refl g in beyond_by w.long (λ j h. w.beyond j (omega (arith, w.heaped.seated.fits)))

-- a turn of a place has settled one at least, and no more than there are
turn_settled : {t : Tech} {view : View} {spots bounds near work : List ℕ} {size settled best item distance number : ℕ}
    → Turn t view spots bounds near work size settled best item distance number → (1 ≤ settled) × (settled ≤ places t)
turn_settled turn =
    let (i, below, is) = turn.laid.all _ turn.known turn.done in
    (omega arith, omega (arith, laid_room turn.laid))

module _ (t : Tech) (view : View) (spots bounds : List ℕ) (item distance : ℕ) (near₀ work₀ : List ℕ) (size₀ best₀ : ℕ) where
  -- whatever was settled before, after so many moves the turn has come so far
  pub record Trying (near work : List ℕ) (size best number : ℕ) : Type 0 where
    pub few : number ≤ 4
    pub first : (settled : ℕ) × Turn t view spots bounds near₀ work₀ size₀ settled best₀ item distance 0
    pub turns : (settled : ℕ) → Turn t view spots bounds near₀ work₀ size₀ settled best₀ item distance 0
        → Turn t view spots bounds near work size settled best item distance number
    pub kept : Beyond (places t + places t) work work₀

  pub trying_begun : (settled : ℕ) × Turn t view spots bounds near₀ work₀ size₀ settled best₀ item distance 0 → Trying near₀ work₀ size₀ best₀ 0
  trying_begun first = record { few = omega arith; first = first; turns = λ s turn. turn; kept = beyond_refl _ work₀ }

  module _ {near work : List ℕ} {size best number : ℕ} (so_far : Trying near work size best number) where
    -- the turn as it is
    pub trying_now : Turn t view spots bounds near work size so_far.first.0 best item distance number
    trying_now = so_far.turns so_far.first.0 so_far.first.1

    -- the distance is small
    pub trying_small : GoodTech t → distance ≤ dearest_move * most_items
    trying_small fine = let (one, most) = turn_settled trying_now in omega (arith, trying_now.below, places_small fine)

    -- one more move
    pub trying_on : GoodTech t → Bounding t spots bounds → number < 4 → {here : Place} → GoodPlace t here → place_code t here ≡ item → here.vertex < 16384
        → {size' best' : ℕ} {near' work' : List ℕ}
        → Reach t view spots bounds here distance number ((system_by t view spots).step here number) size best near work size' best' near' work'
        → Trying near' work' size' best' (number + 1)
    trying_on fine bounding less {here} on is_item there r =
        record {
          few = omega arith;
          first = so_far.first;
          turns = λ s turn. let now = so_far.turns s turn in turn_on fine bounding now less (turn_settled now).0 on is_item there _ refl r;
          kept = beyond_trans (reach_kept _ r) so_far.kept;
        }

-- the cost of a place by its key, as the code has it
pub distance_by : (top left distance : ℕ) → top ≡ 16 * distance + left → (top - left) / 16 ≡ distance
distance_by top left distance is = omega arith
