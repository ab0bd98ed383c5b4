-- Places settled one after the other.
--     between-begun                               before the first
--     turn_begun                                  one is removed from the heap
--     between_on                                  its moves are tried
--     least_asked, least_some                     the least open place
--     removed_turn, removed_kept, removed_room    a place removed, in the code's words
--     ended_none, ended_best                      the search stops
--     ended_rest, ended_forward                   what it has found
use Prim.Native.Nat.{ℕ, suc, ◌+◌, ◌-◌, ◌*◌, ◌/◌, ◌^◌, ◌≤◌, ◌<◌}
use mathlib.Core.Path.{◌≡◌, sym, subst, ◌∙◌}
use mathlib.Core.Logic.{◌⊎◌, inl, inr}
use mathlib.Core.List.{List}
use native.Mathlib.Omega.{arith}
use lib.ListN.{length, get_or, set}
use Rattle.job.specs.Grid.{vertices}
use Rattle.paths.specs.Forward.{Forward}
use Rattle.rules.specs.Views.{View}
use Rattle.rules.specs.Segments.{Place}
use Rattle.rules.specs.Prices.{Tech}
use Rattle.rules.specs.Joins.{places}
use Rattle.rules.specs.Places.{place_code, GoodPlace, GoodTech, dearest_move}
use Rattle.rules.proofs.Places.{code_below, places_small}
use Rattle.heap.specs.Heaps.{key_of, In, key_at, Heaped, Removed}
use Rattle.heap.proofs.Laws.{removed_key, heaped_least}
use Rattle.heap.proofs.Words.{open_or_not}
use Rattle.metal.specs.Codes.{Beyond}
use Rattle.metal.proofs.Slices.{beyond_by, beyond_store, beyond_trans}
use Rattle.bounds.specs.Bounds.{bound_at, Bounding}
use Rattle.search.specs.Fronts.{system_by, starts_by, left_at, costs, reached_by, at_least, best_by}
use Rattle.search.specs.Lists.{Done, Laid}
use Rattle.search.specs.Spreads.{keys, Seeded, Turn, Between, Ended}
use Rattle.search.proofs.Numbers.{place_good, code_place}
use Rattle.search.proofs.Costing.{costs_told, told_costs, cost_touched, same-costs, left_place}
use Rattle.search.proofs.Laying.{laid_room}
use Rattle.search.proofs.Listing.{take-keys, done_take, item_done, take_done, take-slots, laid_take}
use Rattle.search.proofs.Spreading.{spread_begun, spread_all, spread_take}
use Rattle.search.proofs.Finding.{spread_forward}
use Rattle.search.proofs.Seeding.{none_done}

module _ {t : Tech} (view : View) (spots bounds : List ℕ) (fine : GoodTech t) where
  -- a place at no cost
  at_none : (work : List ℕ) (c : ℕ) → keys work c ≡ suc (left_at t bounds c) → costs t bounds work c ≡ 1
  at_none work c is = told_costs t bounds work c (omega (arith, is))

  -- before the first place is settled
  pub between-begun : {near work : List ℕ} {size : ℕ} → Laid (places t) size 0 0 work → Seeded t spots bounds (vertices t.grid) (keys work)
      → length near ≡ 16384 → Between t view spots bounds near work size 0 1099511627775
  between-begun {work = work} laid seeded bytes =
      record {
        last = 0;
        laid = laid;
        told = told;
        spread =
            spread_begun view spots fine 0 0 4 (λ v h byte. at_none work _ (seeded.starts v h byte))
            (λ p good some.
            let (key, which) = seeded.only good (cost_touched t bounds work (place_code t p) some) in
            (at_none work (place_code t p) key, which))
            (none_done laid);
        plain = λ c h d. absurd (none_done laid c h d);
        bytes = bytes;
      }
    where
      told : (c : ℕ) → c < places t → 0 < keys work c → 0 < costs t bounds work c
      told c h some =
          let is = code_place fine h in
          let (key, which) = seeded.only (place_good fine h) (rw is some) in
          omega (arith, at_none work c (rw is at key))

  -- a place is removed from the heap
  pub turn_begun : {near work mid : List ℕ} {size settled best item distance : ℕ} → Between t view spots bounds near work size settled best → 0 < size
      → Removed (places t) size item work mid → key_at work (places t) 0 ≡ suc (16 * distance + left_at t bounds item)
      → Turn t view spots bounds near (set mid (places t + places t - 1 - settled) item) (size - 1) (settled + 1) best item distance 0
  turn_begun {work = work} {mid} {size} {settled} {item = item} {distance = distance} before some w least =
      let l = before.laid in
      let key : keys work item ≡ suc (16 * distance + left_at t bounds item) = sym (removed_key w l.heaped some) ∙ least in
      let cost : costs t bounds work item ≡ suc distance = told_costs t bounds work item key in
      record {
        laid = subst (λ (x : ℕ). Laid (places t) (size - 1) (settled + 1) x (set mid (places t + places t - 1 - settled) item)) key (laid_take l some w);
        told = λ c h touched. rw (same c h) (before.told c h (rw (take-keys l some w c h) at touched));
        spread =
            spread_take view spots fine before.spread (dearest_move * (settled + 1)) item same (take_done l some w) (done_take l some w) (omega arith)
            (omega arith);
        known = w.known;
        done = item_done l some w;
        key = take-keys l some w item w.known ∙ key;
        below = omega (arith, cost, before.spread.small item w.known);
        plain = take-slots l some w before.plain;
        bytes = before.bytes;
      }
    where
      same : (c : ℕ) → c < places t → costs t bounds (set mid (places t + places t - 1 - settled) item) c ≡ costs t bounds work c
      same c h = same-costs t bounds _ work c (take-keys before.laid some w c h)

  -- its moves are tried
  pub between_on : {near work : List ℕ} {size settled best item distance : ℕ} → Turn t view spots bounds near work size settled best item distance 4
      → Between t view spots bounds near work size settled best
  between_on {item = item} {distance = distance} turn =
      record {
        last = suc (16 * distance + left_at t bounds item);
        laid = turn.laid;
        told = turn.told;
        spread = spread_all view spots fine turn.spread 0 (omega arith);
        plain = turn.plain;
        bytes = turn.bytes;
      }

  module _ {near work : List ℕ} {size settled best : ℕ} (now : Between t view spots bounds near work size settled best) where
    -- no place is open
    pub ended_none : size ≤ 0 → Ended t view spots bounds near work size settled best
    ended_none none =
        record { between = now; rest = λ c h o. absurd (omega (arith, now.laid.heaped.seated.within c h o)) }

    -- the least open place is not below the best cost
    pub ended_best : {n r : ℕ} → n ≡ places t → 1 ≤ r → r ≡ key_at work n 0 → 16 * best ≤ r - 1 → Ended t view spots bounds near work size settled best
    ended_best {n} {r} whole one is far =
        let least : r ≡ key_at work (places t) 0 = rw whole at is in
        record { between = now; rest = λ c h o. omega (arith, least, heaped_least now.laid.heaped c h o) }

-- ---- in the code's words

module _ {t : Tech} {view : View} {spots bounds near work : List ℕ} {size settled best n : ℕ} (whole : n ≡ places t)
    (now : Between t view spots bounds near work size settled best) (some : 0 < size) where
  heaped : Heaped n size work
  heaped = rw whole now.laid.heaped

  -- what the least open place is asked for
  pub least_asked : (n ≤ 524288) × (0 < n) × (n + 0 < length work) × (key_of (get_or work (n + 0) 0) ≡ key_at work n 0)
  least_asked =
      let s = heaped.seated in
      (s.few, omega (arith, s.fits), omega (arith, s.fits, s.room), s.agree 0 some)

  -- its key is not 0
  pub least_some : {r : ℕ} → r ≡ key_at work n 0 → 1 ≤ r
  least_some is = omega (arith, is, heaped.seated.touched 0 some)

  pub removed_room : settled < n
  removed_room = omega (arith, laid_room now.laid)

  module _ {item : ℕ} {after : List ℕ} (removed : (mid : List ℕ) × (Removed n size item work mid) × (after ≡ set mid (n + n - 1 - settled) item)) where
    -- its cost, and the moves that are to be tried
    pub removed_turn : GoodTech t → {r : ℕ} → r ≡ key_at work n 0
        → (distance : ℕ) × (r - 1 ≡ 16 * distance + left_at t bounds item) × Turn t view spots bounds near after (size - 1) (settled + 1) best item distance 0
    removed_turn fine {r} is =
        let (mid, w, stored) = removed in
        let whole-w : Removed (places t) size item work mid = rw whole at w in
        let first = removed_key whole-w now.laid.heaped some in
        let there = now.told item whole-w.known (omega (arith, first, rw whole at is, least_some is)) in
        let key = costs_told t bounds work item {e = costs t bounds work item - 1} (omega arith) in
        let turn = turn_begun view spots bounds fine now some whole-w (first ∙ key) in (
          costs t bounds work item - 1,
          omega (arith, key, first, rw whole at is),
          subst (λ (l : List ℕ). Turn t view spots bounds near l (size - 1) (settled + 1) best item (costs t bounds work item - 1) 0) (sym (rw whole at stored)) turn,
        )

    -- past the needed part the slice is as found
    pub removed_kept : Beyond (n + n) after work
    removed_kept =
        let (mid, w, stored) = removed in
        let stays : Beyond (n + n) mid work = beyond_by w.long (λ j h. w.beyond j (omega (arith, w.heaped.seated.fits))) in
        rw stored (beyond_trans (beyond_store (n + n) (n + n - 1 - settled) item mid (omega (arith, removed_room))) stays)

-- ---- what the search has found

module _ {t : Tech} (view : View) {spots bounds : List ℕ} (fine : GoodTech t) (bounding : Bounding t spots bounds) {near work : List ℕ} {size settled best : ℕ}
    (e : Ended t view spots bounds near work size settled best) where
  -- where the search stops, each place that it came to is settled, or beyond the best cost with what is left
  pub ended_rest : (p : Place) (cost : ℕ) → GoodPlace t p → costs t bounds work (place_code t p) ≡ suc cost
      → Done (places t) work (place_code t p) ⊎ (best < cost + at_least t bounds p)
  unfolding at_least
  ended_rest p cost good is = by (open_or_not (places t) (get_or work (place_code t p) 0))
    where
      key : keys work (place_code t p) ≡ suc (16 * cost + bound_at t.grid bounds p.vertex)
      key = rw (← left_place fine bounds good) (costs_told t bounds work (place_code t p) is)

      by : Dec (In work (places t) (place_code t p)) → Done (places t) work (place_code t p) ⊎ (best < cost + (bound_at t.grid bounds p.vertex / 16 + 1))
      by (yes o) = inr (omega (arith, key, e.rest (place_code t p) (code_below good) o))
      by (no o) = inl (record { touched = omega (arith, key); out = o })

  -- what is left is small
  left_small : (p : Place) → at_least t bounds p ≤ 2 ^ 24
  unfolding at_least
  left_small p = omega (arith, bounding.small p.vertex)

  pub ended_forward : Forward (system_by t view spots) (GoodPlace t) (starts_by t view spots) (at_least t bounds) (reached_by t bounds work) (best_by best)
  unfolding reached_by
  ended_forward =
      spread_forward view spots fine (at_least t bounds) e.between.spread (omega arith) (omega (arith, laid_room e.between.laid, places_small fine))
      left_small ended_rest
