-- An axis of the bound, and the cheapest price.
--     Within                                           a coordinate between the ends of a span
--     leaves_fits, leaves_small                        what a coordinate leaves fits, and is small
--     leaves_none, leaves_next                         nothing inside the span, one price more a step off it
--     axis_size, axis_turn                             an axis changes no length, and one more entry of it
--     axis_told, axis_small                            all of its entries, and all small
--     prices_of                                        the prices of layer lines, told one by one
--     fold_fits, cheapest_fold                         the lowest, as prices are folded
--     cheapest_fits, cheapest_of_lem                   it is small, and none is lower
use Prim.Native.Nat.{ℕ, zero, suc, ◌+◌, ◌-◌, ◌*◌, ◌^◌, ◌≤◌, ◌<◌, min}
use mathlib.Core.Path.{◌≡◌, refl, sym, ap, ◌∙◌}
use mathlib.Core.List.{List, [], ◌∷◌, map}
use mathlib.Core.Bool.{Bool, true, false, cond}
use native.Mathlib.Nat.{mul-zero, mul-suc}
use native.Mathlib.Omega.{arith}
use lib.ListN.{length, get_or, set, take, length-set, length-map}
use lib.Dec.{eqb}
use borrow.Author.Count.{below_more}
use Rattle.std.specs.List.{fold}
use Rattle.std.proofs.lemmas.List.{same_lists, get_or-map}
use Rattle.std.proofs.lemmas.List.Sums.{fold_more}
use Rattle.job.specs.Structs.{no_line}
use Rattle.job.specs.declared.groups.Layer.{Layer}
use Rattle.bounds.specs.declared.fill.PinSpan.{PinSpan}
use Rattle.job.proofs.Sizes.{product_within}
use Rattle.rules.proofs.Fitting.{one_more}
use Rattle.tree.proofs.Spots.{set_at}
use Rattle.rules.proofs.Lists.{Filled, filled_none, filled_turn}
use Rattle.bounds.specs.Bounds.{SmallBounds}
use Rattle.bounds.specs.Fills.{cheapest_of, leaves, axis_filled}

-- both ends are inside
pub record Within (span : PinSpan) (at : ℕ) : Type 0 where
  pub low : span.low ≤ at
  pub high : at ≤ span.high

-- ---- what a coordinate leaves

module _ (span : PinSpan) (price : ℕ) where
  module _ (at : ℕ) (near : span.low ≤ 255) (cheap : price < 1024) (on : at < 256) where
    -- it is at most 255 steps off
    pub leaves_fits : price * (span.low - at + (at - span.high)) ≤ 1023 * 255
    leaves_fits = product_within 1023 255 (omega arith) (omega arith)

    pub leaves_small : leaves span price at ≤ 2 ^ 22
    unfolding leaves
    leaves_small = omega (arith, leaves_fits)

  -- inside the span nothing is left
  pub leaves_none : (at : ℕ) → Within span at → leaves span price at ≡ 0
  unfolding leaves
  leaves_none at within =
      let none : span.low - at + (at - span.high) ≡ 0 = omega (arith, within.low, within.high) in
      rw (none, mul-zero) refl

  -- a step changes it by at most one price
  pub leaves_next : (i j : ℕ) → i ≤ suc j → j ≤ suc i → leaves span price i ≤ 15 * price + leaves span price j
  unfolding leaves
  leaves_next i j below above =
      let off = span.low - j + (j - span.high) in
      let within : price * (span.low - i + (i - span.high)) ≤ price * suc off = product_within price (suc off) (omega arith) (omega arith) in
      omega (arith, within, mul-suc price off)

-- ---- an axis

-- a small number put anywhere leaves all small
small_set : (bounds : List ℕ) (at value : ℕ) → SmallBounds bounds → at < length bounds → value ≤ 2 ^ 22 → SmallBounds (set bounds at value)
unfolding SmallBounds
small_set bounds at value small room fits k = rw (set_at bounds at k value room) (by (eqb k at))
  where
    by : (b : Bool) → cond b value (get_or bounds k 0) ≤ 2 ^ 22
    by true = fits
    by false = small k

module _ (span : PinSpan) (price first : ℕ) (before : List ℕ) where
  pub axis_size : (n : ℕ) → length (axis_filled span price first n before) ≡ length before
  unfolding axis_filled
  axis_size zero = refl
  axis_size (suc n) = length-set (axis_filled span price first n before) (first + n) (leaves span price n) ∙ axis_size n

  -- the next entry
  pub axis_turn : (n : ℕ) {bounds : List ℕ} {value : ℕ} → bounds ≡ axis_filled span price first n before → value ≡ leaves span price n
      → set bounds (first + n) value ≡ axis_filled span price first (n + 1) before
  unfolding axis_filled
  axis_turn n so_far is = rw (one_more n, so_far, is) refl

  -- all of them, and those before are as they were
  pub axis_told : (n : ℕ) → first + n ≤ length before → Filled (leaves span price) first before (axis_filled span price first n before) n
  unfolding axis_filled
  axis_told zero room = filled_none _ _ _
  axis_told (suc n) room =
      rw (one_more n) at (filled_turn _ _ _ (axis_told n (omega (arith, room))) refl (omega (arith, room)) refl)

  -- all are small
  pub axis_small : (n : ℕ) → first + n ≤ length before → n ≤ 256 → span.low ≤ 255 → price < 1024 → SmallBounds before
      → SmallBounds (axis_filled span price first n before)
  unfolding axis_filled
  axis_small zero room few near cheap small = small
  axis_small (suc n) room few near cheap small =
      small_set _ _ _ (axis_small n (omega (arith, room)) (omega (arith, few)) near cheap small)
      (omega (arith, room, axis_size n)) (leaves_small span price n near cheap (omega (arith, few)))

-- ---- the cheapest price

-- the prices of layer lines, told one by one
pub prices_of : (price : Layer → ℕ) (lines : List Layer) (prices : List ℕ) → length prices ≡ length lines
    → ((k d : ℕ) → k < length lines → get_or prices k d ≡ price (get_or lines k no_line)) → prices ≡ map price lines
prices_of price lines prices long each =
    same_lists prices (map price lines) (long ∙ sym (length-map lines price))
    (λ k d h. each k d (omega (arith, long, h)) ∙ sym (get_or-map price lines k no_line d (omega (arith, long, h))))

-- none is above where the fold begins
pub fold_fits : (a : ℕ) (prices : List ℕ) → fold min a prices ≤ a
fold_fits a [] = omega arith
fold_fits a (p ∷ ps) = omega (arith, fold_fits (min a p) ps)

module _ (prices : List ℕ) where
  -- the first prices, folded
  pub cheapest_fold : (n : ℕ) → n ≤ length prices → fold min 1023 (take n prices) ≡ cheapest_of prices n
  unfolding cheapest_of
  cheapest_fold zero h = refl
  cheapest_fold (suc n) h =
      let more = fold_more min 1023 prices n 0 (omega arith) in
      rw one_more at more ∙ ap (λ a. min a (get_or prices n 0)) (cheapest_fold n (omega arith))

  pub cheapest_fits : (n : ℕ) → cheapest_of prices n < 1024
  unfolding cheapest_of
  cheapest_fits zero = omega arith
  cheapest_fits (suc n) = omega (arith, cheapest_fits n)

  -- none is lower
  pub cheapest_of_lem : (n k : ℕ) → k < n → cheapest_of prices n ≤ get_or prices k 0
  unfolding cheapest_of
  cheapest_of_lem zero k h = absurd (omega (arith, h))
  cheapest_of_lem (suc n) k h =
      below_more (λ k. min (cheapest_of prices n) (get_or prices n 0) ≤ get_or prices k 0) n (λ j before. omega (arith, cheapest_of_lem n j before)) (omega arith) k
      (omega (arith, h))
