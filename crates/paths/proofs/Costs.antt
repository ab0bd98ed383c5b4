-- Laws of costs.
--     inf_not_fin                     no cost is both finite and none
--     within_trans, within_only       `within` is an order
--     within_inf, within_fin          every cost is within none; what is within a finite cost is finite
--     plus-within, through_fin        a price added to both sides; a finite cost through a move, taken apart
--     least_of_below, least_of_one    the least of some is within each of them, and is one of them
use Prim.Native.Nat.{ℕ, zero, suc, ◌+◌, ◌≤◌, ◌<◌}
use native.Mathlib.Omega.{arith}
use native.Mathlib.Decide.{ℕ_discrete, dec_le}
use mathlib.Core.Path.{◌≡◌, refl, sym, ap, ◌∙◌}
use mathlib.Core.Logic.{◌⊎◌, inl, inr}
use Rattle.paths.specs.Systems.{Step, blocked, to}
use Rattle.paths.specs.Distances.{least, least_of, through}
use Rattle.paths.specs.Costs.{Cost, fin, inf, plus}
use Rattle.paths.specs.Tables.{within}

-- no cost is both finite and none
pub inf_not_fin : {n : ℕ} → inf ≡ fin n → ⊥
inf_not_fin e = let z : ◌≡◌ {A = ℕ} 0 1 = cc in omega arith

-- ---- the order

-- within what is within a third
pub within_trans : (a b c : Cost) → within a b → within b c → within a c
within_trans (fin l) (fin m) (fin n) h k = omega arith
within_trans (fin l) b inf h k = tt
within_trans (fin l) inf (fin n) h k = absurd k
within_trans inf (fin m) c h k = absurd h
within_trans inf inf c h k = k

-- two costs within each other are equal
pub within_only : (a b : Cost) → within a b → within b a → a ≡ b
within_only (fin m) (fin n) h k = ap fin (omega arith)
within_only (fin m) inf h k = absurd k
within_only inf (fin n) h k = absurd h
within_only inf inf h k = refl

-- every cost is within none
pub within_inf : (a : Cost) → within a inf
within_inf (fin n) = tt
within_inf inf = tt

-- what is within a finite cost is finite
pub within_fin : (a : Cost) (n : ℕ) → within a (fin n) → (m : ℕ) × (a ≡ fin m) × (m ≤ n)
within_fin (fin m) n h = (m, refl, h)
within_fin inf n h = absurd h

-- ---- a price and a cost

-- the same price keeps the order
pub plus-within : (p : ℕ) (a b : Cost) → within a b → within (plus p a) (plus p b)
plus-within p (fin m) (fin n) h = omega arith
plus-within p (fin m) inf h = tt
plus-within p inf (fin n) h = absurd h
plus-within p inf inf h = tt

-- a finite sum has a finite part
plus_fin : (p : ℕ) (a : Cost) (n : ℕ) → plus p a ≡ fin n → (d : ℕ) × (a ≡ fin d) × (p + d ≡ n)
plus_fin p (fin d) n e = (d, refl, cc)
plus_fin p inf n e = absurd (inf_not_fin e)

-- a finite cost through a move: the move leads on, and the cost is the sum of its price and of what is left
pub through_fin : {P : Type 0} (D : P → Cost) (x : Step P) (n : ℕ) → through D x ≡ fin n
    → (p : ℕ) × (t : P) × (d : ℕ) × (x ≡ to p t) × (D t ≡ fin d) × (p + d ≡ n)
through_fin D blocked n e = absurd (inf_not_fin e)
through_fin D (to p t) n e = let (d, is, sum) = plus_fin p (D t) n e in (p, t, d, refl, is, sum)

-- ---- the least

-- the lesser of two is within the first
least_left : (a b : Cost) → within (least a b) a
unfolding least
least_left (fin m) (fin n) = omega arith
least_left (fin m) inf = omega arith
least_left inf b = within_inf b

-- the lesser of two is within the second
least_right : (a b : Cost) → within (least a b) b
unfolding least
least_right (fin m) (fin n) = omega arith
least_right (fin m) inf = tt
least_right inf (fin n) = omega arith
least_right inf inf = tt

-- the lesser of two is one of them
least_one : (a b : Cost) → (least a b ≡ a) ⊎ (least a b ≡ b)
unfolding least
least_one (fin m) (fin n) = by (dec_le m n)
  where
    by : Dec (m ≤ n) → (least (fin m) (fin n) ≡ fin m) ⊎ (least (fin m) (fin n) ≡ fin n)
    by (yes h) = inl (ap fin (omega arith))
    by (no h) = inr (ap fin (omega arith))
least_one (fin m) inf = inl refl
least_one inf b = inr refl

module _ (E : ℕ → Cost) where
  -- the least of the first n is within each of them
  pub least_of_below : (n m : ℕ) → m < n → within (least_of E n) (E m)
  unfolding least_of
  least_of_below zero m h = absurd (omega arith)
  least_of_below (suc n) m h = by (ℕ_discrete m n) (least_of_below n m)
    where
      by : Dec (m ≡ n) → (m < n → within (least_of E n) (E m)) → within (least_of E (suc n)) (E m)
      by (yes e) again = rw e (least_right (least_of E n) (E n))
      by (no e) again = within_trans (least_of E (suc n)) (least_of E n) (E m) (least_left (least_of E n) (E n)) (again (omega arith))

  -- where it is finite it is one of them
  pub least_of_one : (n c : ℕ) → least_of E n ≡ fin c → (m : ℕ) × (m < n) × (E m ≡ fin c)
  unfolding least_of
  least_of_one zero c e = absurd (inf_not_fin e)
  least_of_one (suc n) c e = by (least_one (least_of E n) (E n)) (least_of_one n c)
    where
      by : (least_of E (suc n) ≡ least_of E n) ⊎ (least_of E (suc n) ≡ E n) → (least_of E n ≡ fin c → (m : ℕ) × (m < n) × (E m ≡ fin c))
          → (m : ℕ) × (m < suc n) × (E m ≡ fin c)
      by (inl f) again = let (m, below, is) = again (sym f ∙ e) in (m, omega arith, is)
      by (inr f) again = (n, omega arith, sym f ∙ e)
