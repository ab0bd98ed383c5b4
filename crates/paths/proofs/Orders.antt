-- The orders of move lists and of joins are strict and total, so that the first of some is the only first.
--     before_irrefl                              no list comes before itself
--     before_trans                               what comes before a list comes before all after it
--     before-total                               of two different lists one comes before the other
--     ahead_irrefl, ahead_trans, ahead_total     the same of joins
use Prim.Native.Nat.{ℕ, ◌<◌}
use native.Mathlib.Omega.{arith}
use native.Mathlib.Nat.{lt_trans}
use native.Mathlib.Decide.{ℕ_discrete, dec_lt}
use mathlib.Core.Path.{◌≡◌, refl, sym, ◌∙◌}
use mathlib.Core.Logic.{◌⊎◌, inl, inr}
use mathlib.Core.List.{List, [], ◌∷◌}
use Rattle.paths.specs.Rivals.{Before, ends, lower, later, Join, Ahead, by_cost, by_start, by_moves}

-- a list that comes before another is not that one
before_differ : {ms ns : List ℕ} → Before ms ns → ms ≡ ns → ⊥
before_differ ends e = let z : ◌≡◌ {A = ℕ} 0 1 = cc in omega arith
before_differ (lower {m = m} {n = n} h) e = let z : m ≡ n = cc in omega arith
before_differ (later {ms = ms} {ns = ns} b) e = before_differ b (cc)

-- no list comes before itself
pub before_irrefl : {ms : List ℕ} → Before ms ms → ⊥
before_irrefl b = before_differ b refl

-- what comes before a list comes before all after it
pub before_trans : {ls ms ns : List ℕ} → Before ls ms → Before ms ns → Before ls ns
before_trans ends (lower k) = ends
before_trans ends (later c) = ends
before_trans (lower h) (lower k) = lower (lt_trans h k)
before_trans (lower h) (later c) = lower h
before_trans (later b) (lower k) = lower k
before_trans (later b) (later c) = later (before_trans b c)

-- of two different lists one comes before the other
pub before-total : (ms ns : List ℕ) → (ms ≡ ns) ⊎ Before ms ns ⊎ Before ns ms
before-total [] [] = inl refl
before-total [] (n ∷ ns) = inr (inl ends)
before-total (m ∷ ms) [] = inr (inr ends)
before-total (m ∷ ms) (n ∷ ns) = by (ℕ_discrete m n) (dec_lt m n) (before-total ms ns)
  where
    by : Dec (m ≡ n) → Dec (m < n) → (ms ≡ ns) ⊎ Before ms ns ⊎ Before ns ms → (m ∷ ms ≡ n ∷ ns) ⊎ Before (m ∷ ms) (n ∷ ns) ⊎ Before (n ∷ ns) (m ∷ ms)
    by (yes e) d (inl f) = inl (cc)
    by (yes e) d (inr (inl b)) = rw e (inr (inl (later b)))
    by (yes e) d (inr (inr b)) = rw e (inr (inr (later b)))
    by (no e) (yes h) t = inr (inl (lower h))
    by (no e) (no h) t = let down : n < m = omega arith in inr (inr (lower down))

-- ---- joins

-- no join is ahead of itself
pub ahead_irrefl : {j : Join} → Ahead j j → ⊥
ahead_irrefl (by_cost h) = omega arith
ahead_irrefl (by_start e h) = omega arith
ahead_irrefl (by_moves e f b) = before_irrefl b

-- what is ahead of a join is ahead of all behind it
pub ahead_trans : {j k l : Join} → Ahead j k → Ahead k l → Ahead j l
ahead_trans (by_cost h) (by_cost i) = by_cost (omega arith)
ahead_trans (by_cost h) (by_start d i) = by_cost (omega arith)
ahead_trans (by_cost h) (by_moves d f c) = by_cost (omega arith)
ahead_trans (by_start e h) (by_cost i) = by_cost (omega arith)
ahead_trans (by_start e h) (by_start d i) = by_start (e ∙ d) (omega arith)
ahead_trans (by_start e h) (by_moves d f c) = by_start (e ∙ d) (omega arith)
ahead_trans (by_moves e g b) (by_cost i) = by_cost (omega arith)
ahead_trans (by_moves e g b) (by_start d i) = by_start (e ∙ d) (omega arith)
ahead_trans (by_moves e g b) (by_moves d f c) = by_moves (e ∙ d) (g ∙ f) (before_trans b c)

-- of two different joins one is ahead
pub ahead_total : (j k : Join) → (j ≡ k) ⊎ Ahead j k ⊎ Ahead k j
ahead_total j k = by (ℕ_discrete j.cost k.cost) (dec_lt j.cost k.cost)
  where
    Total : Type 0
    Total = (j ≡ k) ⊎ Ahead j k ⊎ Ahead k j

    moves : j.cost ≡ k.cost → j.start ≡ k.start → (j.moves ≡ k.moves) ⊎ Before j.moves k.moves ⊎ Before k.moves j.moves → Total
    moves e f (inl g) = inl (λ i. record { cost = e i; start = f i; moves = g i })
    moves e f (inr (inl b)) = inr (inl (by_moves e f b))
    moves e f (inr (inr b)) = inr (inr (by_moves (sym e) (sym f) b))

    start : j.cost ≡ k.cost → Dec (j.start ≡ k.start) → Dec (j.start < k.start) → Total
    start e (yes f) h = moves e f (before-total j.moves k.moves)
    start e (no f) (yes h) = inr (inl (by_start e h))
    start e (no f) (no h) = inr (inr (by_start (sym e) (omega arith)))

    by : Dec (j.cost ≡ k.cost) → Dec (j.cost < k.cost) → Total
    by (yes e) h = start e (ℕ_discrete j.start k.start) (dec_lt j.start k.start)
    by (no e) (yes h) = inr (inl (by_cost h))
    by (no e) (no h) = inr (inr (by_cost (omega arith)))
