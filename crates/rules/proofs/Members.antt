-- Whether a vertex is in a list.
--     not_both, neither              a test does not both hold and fail; both of two tests fail
--     member_none, member_one        nothing is in an empty list; a vertex is in the list of it alone
--     member_here                    in a list of one
--     member-append, member_both     in one of two lists
--     member_all                     what holds of every element holds of a member
--     without_one, without_less      a pin taken out is in no longer, and no other comes in
--     without_other                  another pin stays as it was
use Prim.Native.Nat.{ℕ}
use mathlib.Core.Path.{◌≡◌, refl, sym, ◌∙◌}
use mathlib.Core.Logic.{◌⊎◌, inl, inr}
use mathlib.Core.List.{List, [], ◌∷◌, ◌++◌}
use mathlib.Core.Bool.{Bool, true, false, ◌||◌}
use native.Mathlib.Omega.{arith}
use lib.Dec.{eqb}
use borrow.Author.Tests.{eqb-true, eqb-false, eq-eqb, ne_eqb}
use Rattle.job.specs.Lists.{any, All}
use Rattle.rules.specs.Views.{member}
use Rattle.rules.specs.Standings.{without}

-- a test does not both hold and fail
pub not_both : {b : Bool} → b ≡ true → b ≡ false → ⊥
not_both h k = let z : ◌≡◌ {A = Bool} true false = sym h ∙ k in let o : ◌≡◌ {A = ℕ} 0 1 = cc in omega arith

-- one of two tests holds
either : (a b : Bool) → (a || b) ≡ true → (a ≡ true) ⊎ (b ≡ true)
either true b h = inl refl
either false b h = inr h

-- both of two tests fail
pub neither : (a b : Bool) → a ≡ false → b ≡ false → (a || b) ≡ false
neither a b h k = rw (h, k)

-- of two tests that fail the second does
second : (a b : Bool) → (a || b) ≡ false → b ≡ false
second true b h = absurd (not_both refl h)
second false b h = h

-- and the first
first : (a b : Bool) → (a || b) ≡ false → a ≡ false
first true b h = h
first false b h = refl

-- nothing is in an empty list
pub member_none : (v : ℕ) → member v [] ≡ true → ⊥
unfolding member any
member_none v h = not_both h refl

-- in a list of one
pub member_here : (v w : ℕ) → member v (w ∷ []) ≡ true → v ≡ w
unfolding member any
member_here v w h = by (either (eqb v w) false h)
  where
    by : (eqb v w ≡ true) ⊎ (false ≡ true) → v ≡ w
    by (inl e) = eqb-true v w e
    by (inr e) = absurd (not_both e refl)

-- a vertex is in the list of it alone
pub member_one : (v : ℕ) → member v (v ∷ []) ≡ true
unfolding member any
member_one v = rw (eq-eqb v v refl) refl

-- in one of two lists
pub member-append : (v : ℕ) (xs ys : List ℕ) → member v (xs ++ ys) ≡ true → (member v xs ≡ true) ⊎ (member v ys ≡ true)
unfolding member any
member-append v [] ys h = inr h
member-append v (x ∷ xs) ys h = by (eqb v x) h (member-append v xs ys)
  where
    by : (b : Bool) → (b || member v (xs ++ ys)) ≡ true
        → (member v (xs ++ ys) ≡ true → (member v xs ≡ true) ⊎ (member v ys ≡ true)) → ((b || member v xs) ≡ true) ⊎ (member v ys ≡ true)
    by true k rest = inl refl
    by false k rest = rest k

-- in two lists, as an equation
pub member_both : (v : ℕ) (xs ys : List ℕ) → member v (xs ++ ys) ≡ (member v xs || member v ys)
unfolding member any
member_both v [] ys = refl
member_both v (x ∷ xs) ys = by (eqb v x) (member_both v xs ys)
  where
    by : (b : Bool) → member v (xs ++ ys) ≡ (member v xs || member v ys) → (b || member v (xs ++ ys)) ≡ ((b || member v xs) || member v ys)
    by true rest = refl
    by false rest = rest

-- what holds of every element holds of a member
pub member_all : (P : ℕ → Type 0) (v : ℕ) (xs : List ℕ) → All P xs → member v xs ≡ true → P v
unfolding member any All
member_all P v [] all h = absurd (not_both h refl)
member_all P v (x ∷ xs) all h = by (either (eqb v x) (member v xs) h) (member_all P v xs all.1)
  where
    by : (eqb v x ≡ true) ⊎ (member v xs ≡ true) → (member v xs ≡ true → P v) → P v
    by (inl e) rest = rw (eqb-true v x e) all.0
    by (inr e) rest = rest e

-- a pin taken out is in no longer
pub without_one : (w : ℕ) (ps : List ℕ) → member w (without w ps) ≡ false
unfolding member any without
without_one w [] = refl
without_one w (p ∷ ps) = by (eqb p w) refl (without_one w ps)
  where
    by : (b : Bool) → eqb p w ≡ b → member w (without w ps) ≡ false → member w (elim b [ true ↦ without w ps | false ↦ p ∷ without w ps ]) ≡ false
    by true e rest = rest
    by false e rest = neither (eqb w p) (member w (without w ps)) (ne_eqb w p (λ same. eqb-false p w e (sym same))) rest

-- and no other comes in
pub without_less : (v w : ℕ) (ps : List ℕ) → member v ps ≡ false → member v (without w ps) ≡ false
unfolding member any without
without_less v w [] h = refl
without_less v w (p ∷ ps) h = by (eqb p w) (without_less v w ps (second (eqb v p) (member v ps) h))
  where
    by : (b : Bool) → member v (without w ps) ≡ false → member v (elim b [ true ↦ without w ps | false ↦ p ∷ without w ps ]) ≡ false
    by true rest = rest
    by false rest = neither (eqb v p) (member v (without w ps)) (first (eqb v p) (member v ps) h) rest

-- another pin stays as it was
pub without_other : (v w : ℕ) (ps : List ℕ) → (v ≡ w → ⊥) → member v (without w ps) ≡ member v ps
unfolding member any without
without_other v w [] differ = refl
without_other v w (p ∷ ps) differ = by (eqb p w) refl (without_other v w ps differ)
  where
    by : (b : Bool) → eqb p w ≡ b → member v (without w ps) ≡ member v ps
        → member v (elim b [ true ↦ without w ps | false ↦ p ∷ without w ps ]) ≡ (eqb v p || member v ps)
    by true e rest = rw (ne_eqb v p (λ same. differ (same ∙ eqb-true p w e))) rest
    by false e rest = rw rest refl
