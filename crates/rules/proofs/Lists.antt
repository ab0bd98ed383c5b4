-- Lists of numbers that are filled entry by entry, and the penalties of the bytes of flags among them.
--     Filled, filled_none, filled_turn    the first n places from one on have their numbers
--     priced                              all bytes have their penalty
use Prim.Native.Nat.{ℕ, ◌+◌, ◌≤◌, ◌<◌}
use mathlib.Core.Path.{◌≡◌, refl, sym, ap, ◌∙◌}
use mathlib.Core.List.{List}
use native.Mathlib.Decide.{dec_lt}
use native.Mathlib.Nat.{not-suc-le-zero}
use native.Mathlib.Omega.{arith}
use lib.ListN.{length, get_or, set, length-set}
use lib.Seq.{get_or-set_same, get_or-set_other}
use Rattle.rules.specs.PriceLists.{extra_field, Priced}

-- ---- one number for each place

module _ (f : ℕ → ℕ) (from : ℕ) (found : List ℕ) where
  -- n places from one on have their numbers, and those before are as they were
  pub record Filled (list : List ℕ) (n : ℕ) : Type 0 where
    pub size : length list ≡ length found
    pub done : (k : ℕ) → k < n → get_or list (from + k) 0 ≡ f k
    pub kept : (k : ℕ) → k < from → get_or list k 0 ≡ get_or found k 0

  -- none has to begin with
  pub filled_none : Filled found 0
  filled_none = record { size = refl; done = λ k h. absurd (not-suc-le-zero h); kept = λ k h. refl }

  -- the next one
  pub filled_turn : {list : List ℕ} {n at value : ℕ} → Filled list n → at ≡ from + n → at < length found → value ≡ f n
      → Filled (set list at value) (n + 1)
  filled_turn {list} {n} {at} {value} so_far here room is =
      record {
        size = length-set list at value ∙ so_far.size;
        done = done;
        kept = λ k h. get_or-set_other list at k value 0 (λ e. omega (arith, e, h, here)) ∙ so_far.kept k h;
      }
    where
      done : (k : ℕ) → k < n + 1 → get_or (set list at value) (from + k) 0 ≡ f k
      done k h = by (dec_lt k n)
        where
          by : Dec (k < n) → get_or (set list at value) (from + k) 0 ≡ f k
          by (yes before) = get_or-set_other list at (from + k) value 0 (λ e. omega (arith, e, before, here)) ∙ so_far.done k before
          by (no last) =
              let same : k ≡ n = omega (arith, h, last) in
              let place : from + k ≡ at = omega (arith, same, here) in
              let there : at < length list = omega (arith, room, so_far.size) in
              ap (λ (i : ℕ). get_or (set list at value) i 0) place ∙ get_or-set_same list at value 0 there ∙ is ∙ ap f (sym same)

-- ---- the penalties

-- all bytes have theirs
pub priced : {guide short : ℕ} {found extras : List ℕ} {n : ℕ} → Filled (extra_field guide short) 0 found extras n → 8 ≤ n
    → Priced guide short extras
priced all enough =
    record {
      each = λ byte h.
          let place : 0 + byte ≡ byte = omega arith in
          rw place at (all.done byte (omega (arith, enough, h)));
    }
