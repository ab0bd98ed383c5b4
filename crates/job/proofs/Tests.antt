-- Tests that hold, as facts; and facts regrouped.
--     leb_holds, eqb_holds     an order, an equation
--     and_holds                both of two tests
--     nor_holds                neither of two tests
--     tests                    the set of these
--     regroup, crosswise       three facts, four facts
use Prim.Native.Nat.{ℕ, ◌≤◌}
use mathlib.Core.Path.{◌≡◌}
use mathlib.Core.Logic.{◌↔◌}
use mathlib.Core.Bool.{Bool, true, false, ◌&&◌, ◌||◌, not}
use lib.Dec.{T, leb, eqb, leb→le, le→leb, eqb→eq, eqb_refl}

-- an order; `ltb a b` is `leb (suc a) b`
pub leb_holds : (a b : ℕ) → T (leb a b) ↔ (a ≤ b)
leb_holds a b = (leb→le a b, le→leb a b)

-- an equation
pub eqb_holds : (a b : ℕ) → T (eqb a b) ↔ (a ≡ b)
eqb_holds a b = (eqb→eq a b, λ e. rw e (eqb_refl b))

-- both of two tests
pub and_holds : (a b : Bool) → T (a && b) ↔ (T a × T b)
and_holds true b = (λ h. (tt, h), λ h. h.1)
and_holds false b = (λ h. absurd h, λ h. h.0)

-- neither of two tests
pub nor_holds : (a b : Bool) → T (not (a || b)) ↔ (T (not a) × T (not b))
nor_holds true b = (λ h. absurd h, λ h. h.0)
nor_holds false b = (λ h. (tt, h), λ h. h.1)

pub ruleset tests = (leb_holds, eqb_holds, and_holds, nor_holds)

-- three facts, the last two or the first two together
pub regroup : {A B C : Type 0} → (A × (B × C)) ↔ ((A × B) × C)
regroup = (λ (a, (b, c)). ((a, b), c), λ ((a, b), c). (a, (b, c)))

-- four facts, two and two
pub crosswise : {A B C D : Type 0} → ((A × B) × (C × D)) ↔ ((A × C) × (B × D))
crosswise = (λ ((a, b), (c, d)). ((a, c), (b, d)), λ ((a, c), (b, d)). ((a, b), (c, d)))
