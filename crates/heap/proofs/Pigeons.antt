-- Numbers by a function of their place in a row.
--     Within, Apart                   k numbers below n, and that are different
--     pigeons                         different numbers below n are at most n
--     joined, joined_within, joined_apart
--         a row of numbers and after them others: below n, and different, where all are
use Prim.Native.Nat.{ℕ, ◌+◌, ◌-◌, ◌≤◌, ◌<◌}
use mathlib.Core.Path.{◌≡◌, sym, ◌∙◌}
use mathlib.Core.Bool.{true, cond}
use mathlib.Core.List.{List, map}
use native.Mathlib.Omega.{arith}
use native.Mathlib.Decide.{dec_lt}
use lib.Dec.{eqb, ltb}
use lib.ListN.{length, get_or}
use borrow.Author.Tests.{eqb-true, ne_eqb, lt-ltb, le-ltb}
use Rattle.std.specs.List.{IsDistinct, list_any, range_with_len}
use Rattle.std.proofs.lemmas.List.Elements.{All-contains, All-from_get_or}
use Rattle.std.proofs.lemmas.List.FromFn.{length-map-range_with_len, get_or-map-range_with_len}
use Rattle.std.proofs.lemmas.Map.Keys.{IsDistinct-from_apart}
use Rattle.std.proofs.lemmas.Map.Steps.{length-le_from_distinct_below}
use Rattle.std.proofs.lemmas.Map.Views.{Contains-from_any}

-- k numbers below n
abbrev pub Within : (n k : ℕ) → (ℕ → ℕ) → Type 0
Within n k f = (i : ℕ) → i < k → f i < n

-- that are different
abbrev pub Apart : (k : ℕ) → (ℕ → ℕ) → Type 0
Apart k f = (i j : ℕ) → i < k → j < k → f i ≡ f j → i ≡ j

-- are at most n
pub pigeons : (n k : ℕ) (f : ℕ → ℕ) → Within n k f → Apart k f → k ≤ n
pigeons n k f within apart = rw long at (length-le_from_distinct_below row n distinct below)
  where
    row : List ℕ
    row = map f (range_with_len 0 k)

    long : length row ≡ k
    long = length-map-range_with_len f 0 k

    here : (i d : ℕ) → i < k → get_or row i d ≡ f i
    here i d h = get_or-map-range_with_len f 0 k i i d h (omega arith)

    distinct : IsDistinct eqb row
    distinct =
        IsDistinct-from_apart eqb row (λ i j d h l.
        let on : j < k = omega (arith, long, l) in
        ne_eqb _ _ (λ e. let same = apart i j (omega arith) on (sym (here i d (omega arith)) ∙ e ∙ here j d on) in omega arith))

    below : (q : ℕ) → list_any (eqb q) row ≡ true → q < n
    below q h =
        All-contains (λ c. c < n) row q
        (All-from_get_or (λ c. c < n) row 0 (λ i l. let on : i < k = omega (arith, long, l) in rw (here i 0 on) (within i on)))
        (Contains-from_any eqb-true q row h)

-- the first a numbers of a row, and after them those of another
pub joined : (a : ℕ) → (f g : ℕ → ℕ) → ℕ → ℕ
joined a f g i = cond (ltb i a) (f i) (g (i - a))

module _ {a : ℕ} (f g : ℕ → ℕ) {i : ℕ} where
  pub joined_first : i < a → joined a f g i ≡ f i
  unfolding joined
  joined_first h = rw (lt-ltb i a h)

  pub joined_rest : a ≤ i → joined a f g i ≡ g (i - a)
  unfolding joined
  joined_rest h = rw (le-ltb i a h)

module _ {a b : ℕ} {f g : ℕ → ℕ} where
  -- all are below n
  pub joined_within : {n : ℕ} → Within n a f → Within n b g → Within n (a + b) (joined a f g)
  joined_within {n} first rest i h = by (dec_lt i a)
    where
      by : Dec (i < a) → joined a f g i < n
      by (yes l) = rw (joined_first f g l) (first i l)
      by (no l) = let high : a ≤ i = omega arith in rw (joined_rest f g high) (rest (i - a) (omega arith))

  -- all are different
  pub joined_apart : Apart a f → Apart b g → ((i j : ℕ) → i < a → j < b → f i ≡ g j → ⊥) → Apart (a + b) (joined a f g)
  joined_apart first rest miss i j h l e = by (dec_lt i a) (dec_lt j a)
    where
      by : Dec (i < a) → Dec (j < a) → i ≡ j
      by (yes x) (yes y) = first i j x y (sym (joined_first f g x) ∙ e ∙ joined_first f g y)
      by (yes x) (no y) = absurd (miss i (j - a) x (omega arith) (sym (joined_first f g x) ∙ e ∙ joined_rest f g (omega arith)))
      by (no x) (yes y) = absurd (miss j (i - a) y (omega arith) (sym (joined_first f g y) ∙ sym e ∙ joined_rest f g (omega arith)))
      by (no x) (no y) =
          let same = rest (i - a) (j - a) (omega arith) (omega arith) (sym (joined_rest f g (omega arith)) ∙ e ∙ joined_rest f g (omega arith)) in
          omega arith
