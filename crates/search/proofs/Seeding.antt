-- The tree put into the heap, vertex by vertex.
--     none_done                                    before any place is settled none is done
--     seeding_begun, _next, _skip, _done           so far
--     Flagged, flagged_begun, _on, _none           whether a block of bytes has one that is not 0
--     Blocked, blocked_begun, _on, _long, _done    the vertices of a block
use Prim.Native.Nat.{ℕ, suc, ◌+◌, ◌%◌, ◌≤◌, ◌<◌, min}
use mathlib.Core.Path.{◌≡◌, refl, sym, ap, ◌∙◌}
use mathlib.Core.Logic.{◌⊎◌, inl, inr}
use mathlib.Core.List.{List}
use mathlib.Core.Bool.{Bool, true, false, not, true≢false}
use lib.Dec.{eqb}
use borrow.Author.Tests.{eqb-true}
use native.Mathlib.Omega.{arith}
use native.Mathlib.Decide.{ℕ_discrete, dec_lt}
use lib.ListN.{length, get_or}
use Rattle.job.specs.Grid.{vertices}
use Rattle.rules.specs.Segments.{Place}
use Rattle.rules.specs.Prices.{Tech}
use Rattle.rules.specs.Joins.{places}
use Rattle.rules.specs.Walks.{start_at}
use Rattle.rules.specs.Places.{place_code, GoodPlace, GoodTech}
use Rattle.rules.proofs.Places.{code_below, code_apart, start_good, places_small}
use Rattle.heap.specs.Heaps.{key_of, Lowered}
use Rattle.metal.specs.Codes.{Beyond, Bare}
use Rattle.metal.proofs.Slices.{beyond_refl, beyond_by, beyond_trans}
use Rattle.search.specs.Fronts.{left_at}
use Rattle.search.specs.Lists.{Done, Laid}
use Rattle.search.specs.Spreads.{keys, Seeded, Seeding}
use Rattle.search.proofs.Laying.{laid_none, laid_lower}
use Rattle.search.proofs.Easing.{Eased, eased_by}

-- before any place is settled none is done
pub none_done : {n size last : ℕ} {work : List ℕ} → Laid n size 0 last work → (c : ℕ) → c < n → Done n work c → ⊥
none_done l c h done = let (i, below, is) = l.all c h done in omega arith

module _ (t : Tech) (spots bounds found : List ℕ) where
  -- the key of a vertex of the tree: it costs nothing
  abbrev first : ℕ → ℕ
  first v = suc (left_at t bounds (place_code t (start_at v)))

  pub seeding_begun : GoodTech t → places t + places t ≤ length found → Bare (places t + places t) found → Seeding t spots bounds found found 0 0
  unfolding Bare key_of
  seeding_begun fine room bare =
      record {
        few = omega arith;
        laid = laid_none 0 room (omega (arith, places_small fine)) bare;
        seeded =
            record {
              starts = λ v h. absurd (omega arith);
              only = λ {p} good some. absurd (omega (arith, some, bare (place_code t p) (omega (arith, code_below good))));
            };
        kept = beyond_refl _ found;
      }

  module _ {work : List ℕ} {size v : ℕ} (so_far : Seeding t spots bounds found work size v) (below : v < vertices t.grid) where
    -- a vertex that is not on the tree
    seeding_off : (get_or spots v 0 ≡ 1 → ⊥) → Seeding t spots bounds found work size (v + 1)
    seeding_off off =
        record {
          few = omega arith;
          laid = so_far.laid;
          seeded = record { starts = λ w h byte. by w h byte (ℕ_discrete w v); only = so_far.seeded.only };
          kept = so_far.kept;
        }
      where
        by : (w : ℕ) → w < v + 1 → get_or spots w 0 ≡ 1 → Dec (w ≡ v) → keys work (place_code t (start_at w)) ≡ first w
        by w h byte (yes e) = absurd (off (rw e at byte))
        by w h byte (no e) = so_far.seeded.starts w (omega arith) byte

    -- one that is
    module _ (fine : GoodTech t) (byte : get_or spots v 0 ≡ 1) {after : List ℕ} {now : ℕ}
        (w : Lowered (places t) size (place_code t (start_at v)) (left_at t bounds (place_code t (start_at v))) work after now) where
      known : place_code t (start_at v) < places t
      known = code_below (start_good below)

      eased : Eased (places t) (keys work) (keys after) (Done (places t) work) (place_code t (start_at v)) (first v)
      eased = eased_by w

      -- it had no entry, or this one
      was : (keys work (place_code t (start_at v)) ≡ 0) ⊎ (keys work (place_code t (start_at v)) ≡ first v)
      was = by (dec_lt 0 (keys work (place_code t (start_at v))))
        where
          by : Dec (0 < keys work (place_code t (start_at v))) → (keys work (place_code t (start_at v)) ≡ 0) ⊎ (keys work (place_code t (start_at v)) ≡ first v)
          by (yes some) = inr (so_far.seeded.only (start_good below) some).0
          by (no none) = inl (omega arith)

      here : keys after (place_code t (start_at v)) ≡ first v
      here = by (eased.which _ known) was
        where
          by : (keys after (place_code t (start_at v)) ≡ keys work (place_code t (start_at v)))
              ⊎ ((place_code t (start_at v) ≡ place_code t (start_at v)) × (keys after (place_code t (start_at v)) ≡ first v))
              → (keys work (place_code t (start_at v)) ≡ 0) ⊎ (keys work (place_code t (start_at v)) ≡ first v) → keys after (place_code t (start_at v)) ≡ first v
          by (inr (same, new)) d = new
          by (inl same) (inl none) = absurd (omega (arith, eased.there, same))
          by (inl same) (inr one) = same ∙ one

      starts_on : (u : ℕ) → u < v + 1 → get_or spots u 0 ≡ 1 → Dec (u ≡ v) → keys after (place_code t (start_at u)) ≡ first u
      starts_on u h on (yes e) = rw e here
      starts_on u h on (no e) =
          let less : u < v = omega arith in
          let one = so_far.seeded.starts u less on in
          let start : GoodPlace t (start_at u) = start_good (omega arith) in
          by one (eased.which _ (code_below start))
        where
          by : keys work (place_code t (start_at u)) ≡ first u
              → (keys after (place_code t (start_at u)) ≡ keys work (place_code t (start_at u)))
              ⊎ ((place_code t (start_at u) ≡ place_code t (start_at v)) × (keys after (place_code t (start_at u)) ≡ first v)) → keys after (place_code t (start_at u)) ≡ first u
          by one (inl same) = same ∙ one
          by one (inr (same, new)) = new ∙ ap (λ (c : ℕ). suc (left_at t bounds c)) (sym same)

      only_on : {p : Place} → GoodPlace t p → 0 < keys after (place_code t p)
          → (keys after (place_code t p) ≡ suc (left_at t bounds (place_code t p))) × ((u : ℕ) × (u < vertices t.grid) × (get_or spots u 0 ≡ 1) × (p ≡ start_at u))
      only_on {p} good some = by (eased.which _ (code_below good))
        where
          by : (keys after (place_code t p) ≡ keys work (place_code t p)) ⊎ ((place_code t p ≡ place_code t (start_at v)) × (keys after (place_code t p) ≡ first v))
              → (keys after (place_code t p) ≡ suc (left_at t bounds (place_code t p))) × ((u : ℕ) × (u < vertices t.grid) × (get_or spots u 0 ≡ 1) × (p ≡ start_at u))
          by (inl same) = let (one, which) = so_far.seeded.only good (rw (← same) some) in (same ∙ one, which)
          by (inr (is, one)) = (one ∙ ap (λ (c : ℕ). suc (left_at t bounds c)) (sym is), (v, below, byte, code_apart fine good (start_good below) is))

      seeding_on : Seeding t spots bounds found after now (v + 1)
      seeding_on =
          record {
            few = omega arith;
            laid = laid_lower w so_far.laid known (omega arith);
            seeded = record { starts = λ u h on. starts_on u h on (ℕ_discrete u v); only = only_on };
            kept = beyond_trans (beyond_by w.long (λ j h. w.beyond j (omega (arith, w.heaped.seated.fits)))) so_far.kept;
          }

    -- whichever it is
    pub seeding_next : GoodTech t → {after : List ℕ} {now : ℕ} → ((get_or spots v 0 ≡ 1 → ⊥) → (now ≡ size) × (after ≡ work))
        → (get_or spots v 0 ≡ 1 → Lowered (places t) size (place_code t (start_at v)) (left_at t bounds (place_code t (start_at v))) work after now) → Seeding t spots bounds found after now (v + 1)
    seeding_next fine {after} {now} off on = by (ℕ_discrete (get_or spots v 0) 1)
      where
        by : Dec (get_or spots v 0 ≡ 1) → Seeding t spots bounds found after now (v + 1)
        by (yes byte) = seeding_on fine byte (on byte)
        by (no byte) = let (same_size, same-work) = off byte in rw (same_size, same-work) (seeding_off byte)

  -- none of some vertices is on the tree
  pub seeding_skip : {work : List ℕ} {size v : ℕ} (next : ℕ) → Seeding t spots bounds found work size v → next ≤ vertices t.grid
      → ((u : ℕ) → v ≤ u → u < next → get_or spots u 0 ≡ 0) → Seeding t spots bounds found work size next
  seeding_skip {work} {v = v} next so_far few none =
      record {
        few = few;
        laid = so_far.laid;
        seeded = record { starts = λ u h byte. by u h byte (dec_lt u v); only = so_far.seeded.only };
        kept = so_far.kept;
      }
    where
      by : (u : ℕ) → u < next → get_or spots u 0 ≡ 1 → Dec (u < v) → keys work (place_code t (start_at u)) ≡ first u
      by u h byte (yes l) = so_far.seeded.starts u l byte
      by u h byte (no l) = absurd (omega (arith, byte, none u (omega arith) h))

  -- all are asked
  pub seeding_done : {work : List ℕ} {size v : ℕ} → Seeding t spots bounds found work size v → vertices t.grid ≤ v
      → Laid (places t) size 0 0 work × (Seeded t spots bounds (vertices t.grid) (keys work) × Beyond (places t + places t) work found)
  seeding_done {work} {v = v} so_far all =
      let whole : v ≡ vertices t.grid = omega (arith, so_far.few) in
      (so_far.laid, (rw (← whole) so_far.seeded, so_far.kept))

-- ---- blocks of vertices

-- of so many bytes none is other than 0 while the flag is 0
pub record Flagged (spots : List ℕ) (from flag i : ℕ) : Type 0 where
  pub few : i ≤ 128
  pub none : flag ≡ 0 → (v : ℕ) → from ≤ v → v < from + i → get_or spots v 0 ≡ 0

pub flagged_begun : (spots : List ℕ) (from : ℕ) → Flagged spots from 0 0
flagged_begun spots from = record { few = omega arith; none = λ z v low high. absurd (omega arith) }

-- the flag is set, or stays since the next byte is 0
pub flagged_on : {Set Stays : Type 0} {spots : List ℕ} {from flag i next : ℕ} → Flagged spots from flag i → i < 128
    → (Set × (next ≡ 1)) ⊎ (Stays × (next ≡ flag)) → (Stays → get_or spots (from + i) 0 ≡ 0) → Flagged spots from next (i + 1)
flagged_on {Set} {Stays} {spots} {from} {flag} {i} {next} so_far less which bare =
    record { few = omega arith; none = λ z v low high. by which z v low high (ℕ_discrete v (from + i)) }
  where
    by : (Set × (next ≡ 1)) ⊎ (Stays × (next ≡ flag)) → next ≡ 0 → (v : ℕ) → from ≤ v → v < from + (i + 1) → Dec (v ≡ from + i) → get_or spots v 0 ≡ 0
    by (inl (is, set)) z v low high d = absurd (omega (arith, set, z))
    by (inr (is, same)) z v low high (yes e) = rw e (bare is)
    by (inr (is, same)) z v low high (no e) = so_far.none (omega (arith, same, z)) v low (omega arith)

pub flagged_none : {spots : List ℕ} {from flag i : ℕ} → Flagged spots from flag i → 128 ≤ i → not (eqb flag 0) ≡ false → (v : ℕ) → from ≤ v
    → v < from + 128 → get_or spots v 0 ≡ 0
flagged_none {flag = flag} so_far all test v low high = so_far.none (by (eqb flag 0) refl test) v low (omega arith)
  where
    by : (b : Bool) → eqb flag 0 ≡ b → not b ≡ false → flag ≡ 0
    by true e h = eqb-true flag 0 e
    by false e h = absurd (true≢false h)

module _ (t : Tech) (spots bounds work₀ : List ℕ) (size₀ from to : ℕ) where
  -- whatever was found at first, so many vertices of the block are asked
  pub record Blocked (work : List ℕ) (size vertex : ℕ) : Type 0 where
    pub few : vertex ≤ to
    pub first : (found : List ℕ) × Seeding t spots bounds found work₀ size₀ from
    pub turns : (found : List ℕ) → Seeding t spots bounds found work₀ size₀ from → Seeding t spots bounds found work size vertex

  pub blocked_begun : (found : List ℕ) × Seeding t spots bounds found work₀ size₀ from → from ≤ to → Blocked work₀ size₀ from
  blocked_begun first h = record { few = h; first = first; turns = λ found so_far. so_far }

  module _ {work : List ℕ} {size v : ℕ} (so_far : Blocked work size v) where
    pub blocked_on : v < to → to ≤ vertices t.grid → GoodTech t → {after : List ℕ} {now : ℕ} → ((get_or spots v 0 ≡ 1 → ⊥) → (now ≡ size) × (after ≡ work))
        → (get_or spots v 0 ≡ 1 → Lowered (places t) size (place_code t (start_at v)) (left_at t bounds (place_code t (start_at v))) work after now) → Blocked after now (v + 1)
    blocked_on less below fine off on =
        record {
          few = omega arith;
          first = so_far.first;
          turns = λ found begun. seeding_next t spots bounds found (so_far.turns found begun) (omega arith) fine off on;
        }

    -- the slice is as long as it was
    pub blocked_long : length work ≡ length work₀
    blocked_long = let (found, begun) = so_far.first in (so_far.turns found begun).kept.size ∙ sym begun.kept.size

    pub blocked_done : to ≤ v → (found : List ℕ) → Seeding t spots bounds found work₀ size₀ from → Seeding t spots bounds found work size to
    blocked_done all found begun = let end : v ≡ to = omega (arith, so_far.few) in rw (← end) (so_far.turns found begun)

-- what a block is asked for
pub block_asked : {all from to count : ℕ} → count ≡ all → from < count → from % 128 ≡ 0 → all ≤ 16384 → to ≡ min count (from + 128)
    → (from + 128 ≤ 16384) × (from ≤ to) × (to ≤ from + 128) × (to ≤ all)
block_asked is less whole most end = (omega arith, omega arith, omega arith, omega arith)
