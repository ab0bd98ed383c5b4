-- A pigeonhole: where no number stands twice in a list, at most n of its entries are below n.
--     count, below                              how often a number stands in a list; how many entries are
--                                               below n
--     count_none, count_other, count-more       an empty list; an entry more that is another; an entry more
--                                               takes none away
--     Once, once_none, once_more                no number stands twice
--     below_none, below_more                    an empty list; an entry more that is below
--     once_below                                the pigeonhole
use Prim.Native.Nat.{ℕ, zero, suc, ◌+◌, ◌≤◌, ◌<◌}
use native.Mathlib.Omega.{arith}
use native.Mathlib.Decide.{ℕ_discrete, dec_lt}
use mathlib.Core.Path.{◌≡◌, refl}
use mathlib.Core.List.{List, [], ◌∷◌}
use mathlib.Core.Bool.{Bool, cond}
use lib.Dec.{ltb, eqb}
use borrow.Author.Tests.{lt-ltb, le-ltb, eq-eqb, ne_eqb}

-- 1 where a test passes
abbrev one : Bool → ℕ
one b = cond b 1 0

-- how often x stands in a list
pub count : ℕ → List ℕ → ℕ
count x [] = 0
count x (y ∷ ys) = one (eqb x y) + count x ys

-- how many entries are below n
pub below : ℕ → List ℕ → ℕ
below n [] = 0
below n (y ∷ ys) = one (ltb y n) + below n ys

-- ---- how often

-- nothing stands in an empty list
pub count_none : (x : ℕ) → count x [] ≡ 0
unfolding count
count_none x = refl

-- an entry more that is x
count_same : (x : ℕ) (ys : List ℕ) → count x (x ∷ ys) ≡ suc (count x ys)
unfolding count
count_same x ys = rw (eq-eqb x x refl) (omega arith)

-- an entry more that is not x
pub count_other : (x y : ℕ) (ys : List ℕ) → (x ≡ y → ⊥) → count x (y ∷ ys) ≡ count x ys
unfolding count
count_other x y ys e = rw (ne_eqb x y e) (omega arith)

-- an entry more takes none away
pub count-more : (x y : ℕ) (ys : List ℕ) → count x ys ≤ count x (y ∷ ys)
unfolding count
count-more x y ys = omega arith

-- no number stands twice
abbrev pub Once : List ℕ → Type 0
Once ys = (x : ℕ) → count x ys ≤ 1

-- nor does any in an empty list
pub once_none : Once []
once_none x = omega (arith, count_none x)

-- nor with one entry more that did not stand there
pub once_more : (y : ℕ) (ys : List ℕ) → count y ys ≡ 0 → Once ys → Once (y ∷ ys)
once_more y ys new once x = by (ℕ_discrete x y)
  where
    by : Dec (x ≡ y) → count x (y ∷ ys) ≤ 1
    by (yes e) = rw (e, count_same y ys, new) (omega arith)
    by (no e) = rw (count_other x y ys e) (once x)

-- ---- how many below

-- no entry of an empty list
pub below_none : (n : ℕ) → below n [] ≡ 0
unfolding below
below_none n = refl

-- an entry more that is below n
pub below_more : (n y : ℕ) (ys : List ℕ) → y < n → below n (y ∷ ys) ≡ suc (below n ys)
unfolding below
below_more n y ys h = rw (lt-ltb y n h) (omega arith)

-- no entry is below 0
below_zero : (ys : List ℕ) → below 0 ys ≡ 0
unfolding below
below_zero [] = refl
below_zero (y ∷ ys) = rw (le-ltb y 0 (omega arith), below_zero ys) (omega arith)

-- an entry is below suc n where it is below n or is n
one_suc : (n y : ℕ) → one (ltb y (suc n)) ≡ one (ltb y n) + one (eqb n y)
one_suc n y = by (dec_lt y n) (ℕ_discrete n y)
  where
    by : Dec (y < n) → Dec (n ≡ y) → one (ltb y (suc n)) ≡ one (ltb y n) + one (eqb n y)
    by (yes h) e = rw (lt-ltb y (suc n) (omega arith), lt-ltb y n h, ne_eqb n y (omega arith))
    by (no h) (yes e) = rw (lt-ltb y (suc n) (omega arith), le-ltb y n (omega arith), eq-eqb n y e)
    by (no h) (no e) = rw (le-ltb y (suc n) (omega arith), le-ltb y n (omega arith), ne_eqb n y e)

-- the entries below suc n are those below n and those that are n
below_suc : (n : ℕ) (ys : List ℕ) → below (suc n) ys ≡ below n ys + count n ys
unfolding below count
below_suc n [] = refl
below_suc n (y ∷ ys) = omega (arith, one_suc n y, below_suc n ys)

-- where no number stands twice, at most n entries are below n
pub once_below : (n : ℕ) (ys : List ℕ) → Once ys → below n ys ≤ n
once_below zero ys once = omega (arith, below_zero ys)
once_below (suc n) ys once = omega (arith, below_suc n ys, once n, once_below n ys once)
