-- Reading with occupants beside reading: the first follows the second where both are refused alike, or where
-- both go on, at a known place and with occupants of which a claim holds.
--     Follows                            the relation
--     follows_refused, follows_good      what it says of a reading that is refused, and of one that is good
--     follows_then, follows_end          a reading and what comes after it
--     follows_rule                       a rule, then what comes after it
--     plain_follows                      a reading that changes no occupant
use Prim.Native.Nat.{ℕ}
use mathlib.Core.Path.{◌≡◌, refl, ◌∙◌}
use mathlib.Core.List.{List}
use mathlib.Core.Bool.{Bool, true, false, cond}
use lib.Dec.{T}
use Rattle.job.specs.Reading.{Read, refused, good, ◌>>=◌, ◌>>◌, rule}
use Rattle.occupants.specs.Structs.{many_reached}
use Rattle.occupants.specs.Occupants.{Passed, reached, stopped, answer_of, occupants_of, with_occupants, and_then}

-- what reading with occupants has come to, beside what reading has read; end is the position after it, Claim
-- what the occupants then say
pub data Follows {A : Type 0} (end : A → ℕ) (Claim : A → List ℕ → Type 0) : Passed → Read A → Type 0 where
  both_stop : (n p : ℕ) (m : List ℕ) → Follows end Claim (stopped n p m) (refused n p)
  both_go : (at : ℕ) (m : List ℕ) (a : A) → at ≡ end a → Claim a m → Follows end Claim (reached at m) (good a)

module _ {A : Type 0} {end : A → ℕ} {Claim : A → List ℕ → Type 0} where
  -- a refusal is the code's answer
  pub follows_refused : {passed : Passed} {read : Read A} (n p : ℕ) → Follows end Claim passed read → read ≡ refused n p
      → answer_of passed ≡ refused n p
  unfolding answer_of
  follows_refused n p (both_stop k q m) e = let a : k ≡ n = cc in let b : q ≡ p = cc in rw (a, b)
  follows_refused n p (both_go at m a place claim) e = absurd (cc)

  -- where reading is good the code's answer is the position after it, and its occupants are as claimed
  pub follows_good : {passed : Passed} {read : Read A} (a : A) → Follows end Claim passed read → read ≡ good a
      → (answer_of passed ≡ good (end a)) × Claim a (occupants_of passed)
  unfolding answer_of occupants_of
  follows_good a (both_stop k q m) e = absurd (cc)
  follows_good a (both_go at m b position claim) e = let same : b ≡ a = cc in (rw (position, same), rw same at claim)

  -- a reading, then what comes after it
  pub follows_then : {B : Type 0} {end' : B → ℕ} {Claim' : B → List ℕ → Type 0} {passed : Passed} {read : Read A}
      (next : ℕ → List ℕ → Passed) (rest : A → Read B) → Follows end Claim passed read
      → ((a : A) (m : List ℕ) → Claim a m → Follows end' Claim' (next (end a) m) (rest a))
      → Follows end' Claim' (and_then passed next) (◌>>=◌ read rest)
  unfolding and_then ◌>>=◌
  follows_then next rest (both_stop n p m) go = both_stop n p m
  follows_then next rest (both_go at m a position claim) go = rw position (go a m claim)

  -- a reading from which something is made
  pub follows_end : {B : Type 0} {end' : B → ℕ} {Claim' : B → List ℕ → Type 0} {passed : Passed} {read : Read A} (made : A → B)
      → Follows end Claim passed read → ((a : A) → end a ≡ end' (made a)) → ((a : A) (m : List ℕ) → Claim a m → Claim' (made a) m)
      → Follows end' Claim' passed (◌>>=◌ read (λ a. good (made a)))
  unfolding ◌>>=◌
  follows_end made (both_stop n p m) ends claims = both_stop n p m
  follows_end made (both_go at m a position claim) ends claims = both_go at m (made a) (position ∙ ends a) (claims a m claim)

  -- a rule, then what comes after it
  pub follows_rule : {passed : Passed} {read : Read A} (n p : ℕ) (m : List ℕ) (holds : Bool) → (T holds → Follows end Claim passed read)
      → Follows end Claim (cond holds passed (stopped n p m)) (◌>>◌ (rule n p holds) read)
  unfolding rule ◌>>◌
  follows_rule n p m true go = go tt
  follows_rule n p m false go = both_stop n p m

-- a reading that changes no occupant: where it is good, the code comes to its end and the occupants stay
pub plain_follows : {A : Type 0} {Claim : List ℕ → Type 0} (position : A → ℕ) (end : ℕ) (read : Read A) (m : List ℕ)
    → ((a : A) → read ≡ good a → end ≡ position a) → Claim m → Follows position (λ a. Claim) (with_occupants m (many_reached end read)) read
unfolding with_occupants many_reached ◌>>◌
plain_follows place end (refused n p) m ends claim = both_stop n p m
plain_follows position end (good a) m ends claim = both_go end m a (ends a refl) claim
