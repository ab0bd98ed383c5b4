-- Reading that ends in a good value, taken apart step by step.
--     good_good                   two good values are equal where what they hold is
--     rule_good                   a rule is good where its test holds
--     then_good                   a test, then the rest: both are good
--     bind_good                   a reading, then what goes on with its value: both are good
--     steps                       the set of these
--     made_refused, made_good     what is made of a reading: it is refused, or good, where the reading is
use Prim.Native.Nat.{ℕ}
use mathlib.Core.Path.{◌≡◌, refl, ap}
use mathlib.Core.Logic.{◌↔◌}
use mathlib.Core.Bool.{Bool, true, false}
use lib.Dec.{T}
use native.Mathlib.Omega.{arith}
use Rattle.job.specs.Reading.{Read, refused, good, ◌>>=◌, ◌>>◌, rule}

-- two good values are equal where what they hold is
pub good_good : {A : Type 0} (a b : A) → (good a ≡ good b) ↔ (a ≡ b)
good_good a b = (λ e. cc, λ e. ap good e)

-- a rule is good where its test holds
pub rule_good : (n p : ℕ) (t : Bool) → (rule n p t ≡ good tt) ↔ T t
unfolding rule
rule_good n p true = (λ e. tt, λ h. refl)
rule_good n p false = (λ e. let z : ◌≡◌ {A = ℕ} 0 1 = cc in absurd (omega arith), λ h. absurd h)

-- a test, then the rest: both are good
pub then_good : {B : Type 0} (r : Read Unit) (next : Read B) (b : B) → (◌>>◌ r next ≡ good b) ↔ ((r ≡ good tt) × (next ≡ good b))
unfolding ◌>>◌
then_good (refused n p) next b = (λ e. let z : ◌≡◌ {A = ℕ} 0 1 = cc in absurd (omega arith), λ h. let e = h.0 in cc)
then_good (good a) next b = (λ e. (refl, e), λ h. h.1)

-- a reading, then what goes on with its value: there is a value with which both are good
pub bind_good : {A B : Type 0} (r : Read A) (next : A → Read B) (b : B) → (◌>>=◌ r next ≡ good b) ↔ ((a : A) × (r ≡ good a) × (next a ≡ good b))
unfolding ◌>>=◌
bind_good (refused n p) next b = (λ e. let z : ◌≡◌ {A = ℕ} 0 1 = cc in absurd (omega arith), λ h. let e = h.1 in cc)
bind_good (good a) next b = (λ e. (a, refl, e), λ h. rw ((good_good a h.0).0 h.1) h.2)

pub ruleset steps = (good_good, rule_good, then_good, bind_good)

module _ {A B : Type 0} (made : A → B) where
  -- where what is made of a reading is refused, so is the reading
  pub made_refused : (r : Read A) {n p : ℕ} → refused n p ≡ ◌>>=◌ r (λ a. good (made a)) → r ≡ refused n p
  unfolding ◌>>=◌
  made_refused (refused k q) e = cc
  made_refused (good a) e = cc

  -- where it is good, the reading is, and it is made of that
  pub made_good : (r : Read A) {b : B} → good b ≡ ◌>>=◌ r (λ a. good (made a)) → (a : A) × (r ≡ good a) × (b ≡ made a)
  unfolding ◌>>=◌
  made_good (refused n p) e = absurd (cc)
  made_good (good a) e = (a, refl, cc)
