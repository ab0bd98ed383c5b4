-- Tests and claims over a list.
--     any, all     whether a test holds of some, of every element
--     All          a claim about every element
use Rattle.std.specs.Prelude.{List, [], ◌∷◌, Bool, true, false, ◌&&◌, ◌||◌}

module _ {A : Type 0} where
  unfoldable pub any : (A → Bool) → List A → Bool
  any test [] = false
  any test (x ∷ xs) = test x || any test xs

  unfoldable pub all : (A → Bool) → List A → Bool
  all test [] = true
  all test (x ∷ xs) = test x && all test xs

  unfoldable pub All : (A → Type 0) → List A → Type 0
  All Claim [] = Unit
  All Claim (x ∷ xs) = Claim x × All Claim xs
