-- `rules::track::kind_of` meets its contract.
use native.Mathlib.Omega.{arith}
use Prim.Native.Nat.{ℕ, zero, suc}
use mathlib.Core.Path.{◌≡◌, refl, sym}
use Rattle.rules.specs.Segments.{up, kind_of}
use Rattle.rules.specs.Structs.{direction_of, kind_by}
use Rattle.rules.proofs.track.kind_of.Goals as goal

-- every number past 2 goes up
later_up : (number : ℕ) → (number ≡ 0 → ⊥) → (number ≡ 1 → ⊥) → (number ≡ 2 → ⊥) → kind_of number ≡ up
unfolding kind_of
later_up zero not0 not1 not2 = absurd (not0 refl)
later_up (suc zero) not0 not1 not2 = absurd (not1 refl)
later_up (suc (suc zero)) not0 not1 not2 = absurd (not2 refl)
later_up (suc (suc (suc n))) not0 not1 not2 = refl

pub returns-in-0 : goal.returns-in-0
unfolding kind_of kind_by direction_of
returns-in-0 c = rw c.in-0.is refl

pub returns-in-1 : goal.returns-in-1
unfolding kind_of kind_by direction_of
returns-in-1 c = rw c.in-1.is refl

pub returns-in-2 : goal.returns-in-2
unfolding kind_of kind_by
returns-in-2 c = rw c.in-2.is refl

pub returns-in_default : goal.returns-in_default
unfolding kind_by
returns-in_default c = sym (later_up c.args.number (omega arith) (omega arith) (omega arith))
