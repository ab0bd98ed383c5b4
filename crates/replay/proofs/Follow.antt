-- Two readings of the same bits, one by the definition and one with arrays: both refuse alike, or both are
-- good and meet.
--     Follow                    what they have in common
--     follow_on                 one reading after another
--     follow_read, follow_then  after what both read without touching the arrays
--     follow_meets              what meets by one relation meets by another
--     follow_with               the definition adds to what was read
--     then_assoc                a rule before a reading and what follows that
use Prim.Native.Nat.{ℕ}
use mathlib.Core.Path.{◌≡◌, refl, ap}
use Rattle.job.specs.Reading.{Read, refused, good, ◌>>=◌, ◌>>◌}
use Rattle.walker.specs.Entering.{Arrays}
use Rattle.replay.specs.Following.{Came, came, stopped, and_on, and_read}

-- both refuse by the same number at the same place; or both are good, and what they read and the arrays meet
pub data Follow {A B : Type 0} (Meets : A → B → Arrays → Type 0) : Read A → Came B → Type 0 where
  both_refused : {n p : ℕ} {arrays : Arrays} {x : Read A} {y : Came B} → x ≡ refused n p → y ≡ stopped n p arrays → Follow Meets x y
  both_good : {a : A} {b : B} {arrays : Arrays} {x : Read A} {y : Came B} → x ≡ good a → y ≡ came b arrays → Meets a b arrays → Follow Meets x y

-- a rule before a reading and what follows that
pub then_assoc : {A B C : Type 0} (u : Read A) (x : Read B) (f : B → Read C) → ◌>>=◌ (◌>>◌ u x) f ≡ ◌>>◌ u (◌>>=◌ x f)
unfolding ◌>>=◌ ◌>>◌
then_assoc (refused n p) x f = refl
then_assoc (good a) x f = refl

-- what meets by one relation meets by another
pub follow_meets : {A B : Type 0} {Meets Other : A → B → Arrays → Type 0} {x : Read A} {y : Came B}
    → ((a : A) (b : B) (arrays : Arrays) → Meets a b arrays → Other a b arrays) → Follow Meets x y → Follow Other x y
follow_meets other (both_refused e h) = both_refused e h
follow_meets other (both_good {a = a} {b = b} {arrays = arrays} e h m) = both_good e h (other a b arrays m)

-- one reading after another
pub follow_on : {A B C D : Type 0} {Meets : A → B → Arrays → Type 0} (Then : C → D → Arrays → Type 0) {x : Read A} {y : Came B}
    (f : A → Read C) (g : B → Arrays → Came D) → Follow Meets x y
    → ((a : A) (b : B) (arrays : Arrays) → x ≡ good a → Meets a b arrays → Follow Then (f a) (g b arrays)) → Follow Then (◌>>=◌ x f) (and_on y g)
unfolding ◌>>=◌ and_on
follow_on {A} {B} Then f g (both_refused e h) next = both_refused (ap (λ (z : Read A). ◌>>=◌ z f) e) (ap (λ (z : Came B). and_on z g) h)
follow_on Then f g (both_good {a = a} {b = b} {arrays = arrays} e h m) next = rw (e, h) (next a b arrays e m)

-- the definition adds to what was read
pub follow_with : {A C D : Type 0} (Then : C → D → Arrays → Type 0) (f : A → C) {x : Read A} {y : Came D}
    → Follow (λ a d arrays. Then (f a) d arrays) x y → Follow Then (◌>>=◌ x (λ a. good (f a))) y
unfolding ◌>>=◌
follow_with {A} Then f (both_refused e h) = both_refused (ap (λ (z : Read A). ◌>>=◌ z (λ a. good (f a))) e) h
follow_with {A} Then f (both_good e h m) = both_good (ap (λ (z : Read A). ◌>>=◌ z (λ a. good (f a))) e) h m

-- after what both read without touching the arrays
pub follow_read : {A C D : Type 0} (Then : C → D → Arrays → Type 0) (x : Read A) (arrays : Arrays) (f : A → Read C) (g : A → Came D)
    → ((a : A) → x ≡ good a → Follow Then (f a) (g a)) → Follow Then (◌>>=◌ x f) (and_read arrays x g)
unfolding ◌>>=◌ and_read
follow_read Then (refused n p) arrays f g next = both_refused refl refl
follow_read Then (good a) arrays f g next = next a refl

-- the same, where what was read is not looked at
pub follow_then : {A C D : Type 0} (Then : C → D → Arrays → Type 0) (x : Read A) (arrays : Arrays) (y : Read C) (z : Came D)
    → Follow Then y z → Follow Then (◌>>◌ x y) (and_read arrays x (λ a. z))
unfolding ◌>>◌ and_read
follow_then Then (refused n p) arrays y z next = both_refused refl refl
follow_then Then (good a) arrays y z next = next
