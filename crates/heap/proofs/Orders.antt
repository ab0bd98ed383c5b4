-- The order of the heap, told by the key k at each seat. Two seats swap their keys: k before, l after.
--     Swap                          the two keys swapped, and the others as they were
--     rising_on, sinking_on         the item that is out of order has gone a seat up, or down
--     rising_done, sinking_done     it has found its seat
--     least_first                   the key at the front is the least
use Prim.Native.Nat.{ℕ, zero, suc, ◌≤◌, ◌<◌}
use mathlib.Core.Path.{◌≡◌}
use native.Mathlib.Nat.{le_refl}
use native.Mathlib.Omega.{arith}
use native.Mathlib.Decide.{ℕ_discrete}
use Rattle.heap.specs.Heaps.{above}
use Rattle.heap.specs.Sifts.{Rising, Sinking}

-- the keys at two seats swapped
pub record Swap (size a b : ℕ) (k l : ℕ → ℕ) : Type 0 where
  pub first : l a ≡ k b
  pub second : l b ≡ k a
  pub others : (i : ℕ) → i < size → (i ≡ a → ⊥) → (i ≡ b → ⊥) → l i ≡ k i

module _ {size : ℕ} {k : ℕ → ℕ} where
  module _ {at : ℕ} {l : ℕ → ℕ} (r : Rising size at k) (low : 0 < at) (less : k at < k (above at)) (s : Swap size at (above at) k l) where
    -- the order after a swap with the seat above
    rising_order : (i : ℕ) → 0 < i → i < size → (i ≡ above at → ⊥) → Dec (i ≡ at) → Dec (above i ≡ at) → Dec (above i ≡ above at) → l (above i) ≤ l i
    rising_order i p h e (yes f) x y = rw f (omega (arith, s.first, s.second))
    rising_order i p h e (no f) (yes g) y = rw g (omega (arith, s.first, s.others i h f e, r.span i low p h g))
    rising_order i p h e (no f) (no g) (yes y) = rw y (omega (arith, s.second, s.others i h f e, rw y at (r.order i p h f)))
    rising_order i p h e (no f) (no g) (no y) = omega (arith, s.others i h f e, s.others (above i) (omega arith) g y, r.order i p h f)

    -- what is below is at least what is above
    rising_span : (i : ℕ) → 0 < above at → 0 < i → i < size → above i ≡ above at → Dec (i ≡ at) → l (above (above at)) ≤ l i
    rising_span i q p h e (yes f) =
        rw f (omega (arith, r.known, s.first, s.others (above (above at)) (omega (arith, r.known)) (omega arith) (omega arith), r.order (above at) q (omega (arith, r.known)) (omega arith)))
    rising_span i q p h e (no f) =
        omega (arith, s.others i h f (omega arith), s.others (above (above at)) (omega (arith, r.known)) (omega arith) (omega arith), r.order (above at) q (omega (arith, r.known)) (omega arith), rw e at (r.order i p h f))

    -- the item has gone a seat up
    pub rising_on : Rising size (above at) l
    rising_on =
        record {
          known = omega (arith, r.known);
          order = λ i p h e. rising_order i p h e (ℕ_discrete i at) (ℕ_discrete (above i) at) (ℕ_discrete (above i) (above at));
          span = λ i q p h e. rising_span i q p h e (ℕ_discrete i at);
        }

  -- it has found its seat
  pub rising_done : {at : ℕ} → Rising size at k → (0 < at → k (above at) ≤ k at) → (i : ℕ) → 0 < i → i < size → k (above i) ≤ k i
  rising_done {at} r stop i p h = by (ℕ_discrete i at)
    where
      by : Dec (i ≡ at) → k (above i) ≤ k i
      by (yes e) = rw e (stop (omega arith))
      by (no e) = r.order i p h e

  module _ {at child : ℕ} {l : ℕ → ℕ} (r : Sinking size at k) (low : at < child) (known : child < size) (of : above child ≡ at)
      (least : (i : ℕ) → 0 < i → i < size → above i ≡ at → k child ≤ k i) (less : k child < k at) (s : Swap size at child k l) where
    -- the order after a swap with the lesser seat below
    sinking_order : (i : ℕ) → 0 < i → i < size → (above i ≡ child → ⊥) → Dec (i ≡ at) → Dec (i ≡ child) → Dec (above i ≡ at) → l (above i) ≤ l i
    sinking_order i p h e (yes f) g x =
        rw f (omega (arith, s.first, s.others (above at) (omega (arith, r.known)) (omega arith) (omega arith), r.span child (omega arith) (omega arith) known of))
    sinking_order i p h e (no f) (yes g) x = rw (g, of) (omega (arith, s.first, s.second))
    sinking_order i p h e (no f) (no g) (yes x) = rw x (omega (arith, s.first, s.others i h f g, least i p h x))
    sinking_order i p h e (no f) (no g) (no x) = omega (arith, s.others i h f g, s.others (above i) (omega arith) x e, r.order i p h x)

    -- the item has gone a seat down
    pub sinking_on : Sinking size child l
    sinking_on =
        record {
          known = known;
          order = λ i p h e. sinking_order i p h e (ℕ_discrete i at) (ℕ_discrete i child) (ℕ_discrete (above i) at);
          span = λ i q p h e.
              rw of (omega (arith, s.first, s.others i h (omega arith) (omega arith), rw e at (r.order i p h (omega arith))));
        }

  -- it has found its seat
  pub sinking_done : {at : ℕ} → Sinking size at k → ((i : ℕ) → 0 < i → i < size → above i ≡ at → k at ≤ k i)
      → (i : ℕ) → 0 < i → i < size → k (above i) ≤ k i
  sinking_done {at} r stop i p h = by (ℕ_discrete (above i) at)
    where
      by : Dec (above i ≡ at) → k (above i) ≤ k i
      by (yes e) = rw e (stop i p h e)
      by (no e) = r.order i p h e

  -- the key at the front is the least
  pub least_first : ((i : ℕ) → 0 < i → i < size → k (above i) ≤ k i) → (i : ℕ) → i < size → k 0 ≤ k i
  least_first order i h = by i i (le_refl i) h
    where
      pick : (i : ℕ) → i < size → Dec (i ≡ 0) → (0 < i → k 0 ≤ k (above i)) → k 0 ≤ k i
      pick i h (yes e) up = rw e (le_refl (k 0))
      pick i h (no e) up = omega (arith, order i (omega arith) h, up (omega arith))

      by : (fuel i : ℕ) → i ≤ fuel → i < size → k 0 ≤ k i
      by zero i l h = pick i h (ℕ_discrete i 0) (λ p. absurd (omega arith))
      by (suc fuel) i l h = pick i h (ℕ_discrete i 0) (λ p. by fuel (above i) (omega arith) (omega arith))
