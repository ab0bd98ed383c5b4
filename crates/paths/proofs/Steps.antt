-- What a move leads to is said in one way.
--     not_blocked              a move is not blocked and legal
--     one_price, one_next      a legal move has one price and leads to one place
use Prim.Native.Nat.{ℕ}
use mathlib.Core.Path.{◌≡◌}
use native.Mathlib.Omega.{arith}
use Rattle.paths.specs.Systems.{Step, to}

pub not_blocked : {P : Type 0} {p : ℕ} {q : P} → Step.blocked ≡ to p q → ⊥
not_blocked e = let z : ◌≡◌ {A = ℕ} 0 1 = cc in omega arith

pub one_price : {P : Type 0} {p d : ℕ} {q r : P} → to p q ≡ to d r → p ≡ d
one_price e = cc

pub one_next : {P : Type 0} {p d : ℕ} {q r : P} → to p q ≡ to d r → q ≡ r
one_next e = cc
