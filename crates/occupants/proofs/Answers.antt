-- The code's answer and its occupants beside where reading with occupants has come.
--     answer_at, answer_refused       an answer says where
--     then_at, then_refused           and what comes after it
--     Says                            what a reader with occupants promises
--     told_at, told_refused, told     where says answer and occupants
--     many_at, many_refused           the same of reading that changes no occupant
--     Ends and its laws               a claim on the position to which reading comes
use Prim.Native.Nat.{ℕ}
use mathlib.Core.Path.{◌≡◌, refl, sym}
use mathlib.Core.List.{List}
use mathlib.Core.Bool.{Bool, true, false, cond}
use Rattle.job.specs.Reading.{Read, refused, good, ◌>>◌}
use Rattle.occupants.specs.Structs.{many_reached}
use Rattle.occupants.specs.Occupants.{Passed, reached, stopped, answer_of, occupants_of, with_occupants, and_then}

-- an answer with a position: reading has come there
pub answer_at : (p : Passed) (at : ℕ) → answer_of p ≡ good at → p ≡ reached at (occupants_of p)
unfolding answer_of occupants_of
answer_at (reached q m) at e = cc
answer_at (stopped n q m) at e = absurd (cc)

-- an answer with a refusal: reading was stopped by it
pub answer_refused : (p : Passed) (n at : ℕ) → answer_of p ≡ refused n at → p ≡ stopped n at (occupants_of p)
unfolding answer_of occupants_of
answer_refused (reached q m) n at e = absurd (cc)
answer_refused (stopped k q m) n at e = cc

-- from the position that was answered reading goes on
pub then_at : (p : Passed) (next : ℕ → List ℕ → Passed) {m : List ℕ} {at : ℕ} → good at ≡ answer_of p → m ≡ occupants_of p
    → and_then p next ≡ next at m
unfolding and_then occupants_of
then_at p next {m} {at} answer occupants = rw (occupants, answer_at p at (sym answer))

-- after a refusal nothing is read
pub then_refused : (p : Passed) (next : ℕ → List ℕ → Passed) {m : List ℕ} {n at : ℕ} → refused n at ≡ answer_of p → m ≡ occupants_of p
    → and_then p next ≡ stopped n at m
unfolding and_then occupants_of
then_refused p next {m} {n} {at} answer occupants = rw (occupants, answer_refused p n at (sym answer))

-- what a reader with occupants promises
abbrev pub Says : Passed → Read ℕ → List ℕ → Type 0
Says p r m = record { answer : (r ≡ answer_of p); occupants : (m ≡ occupants_of p) }

-- reading that has come to a position answers it
pub told_at : {p : Passed} {at : ℕ} {m : List ℕ} → p ≡ reached at m → Says p (good at) m
unfolding answer_of occupants_of
told_at e = rw e (record { answer = refl; occupants = refl })

-- reading that was stopped answers the refusal
pub told_refused : {p : Passed} {n at : ℕ} {m : List ℕ} {r : Read ℕ} → p ≡ stopped n at m → r ≡ refused n at → Says p r m
unfolding answer_of occupants_of
told_refused e answer = rw e (record { answer = answer; occupants = refl })

-- an answer beside occupants
pub told : {p : Passed} {r : Read ℕ} {m : List ℕ} → p ≡ with_occupants m r → Says p r m
unfolding answer_of occupants_of with_occupants
told {p} {r} {m} e = rw e (by r)
  where
    by : (a : Read ℕ) → Says (with_occupants m a) a m
    by (good at) = record { answer = refl; occupants = refl }
    by (refused n at) = record { answer = refl; occupants = refl }

-- an answer with a position: what was to be read is good
pub many_at : {A : Type 0} (end : ℕ) (r : Read A) (at : ℕ) → many_reached end r ≡ good at → (end ≡ at) × (x : A) × (r ≡ good x)
unfolding many_reached ◌>>◌
many_at end (refused n p) at e = absurd (cc)
many_at end (good x) at e = (cc, x, refl)

-- an answer with a refusal: it was refused by it
pub many_refused : {A : Type 0} (end : ℕ) (r : Read A) (n p : ℕ) → many_reached end r ≡ refused n p → r ≡ refused n p
unfolding many_reached ◌>>◌
many_refused end (refused k q) n p e = cc
many_refused end (good x) n p e = absurd (cc)

-- ---- a claim on the place to which reading comes, where it is not refused

pub data Ends (Claim : ℕ → Type 0) : Passed → Type 0 where
  there : (at : ℕ) (m : List ℕ) → Claim at → Ends Claim (reached at m)
  nowhere : (n p : ℕ) (m : List ℕ) → Ends Claim (stopped n p m)

module _ {Claim : ℕ → Type 0} where
  -- a test, with a reading either way
  pub ends_either : (b : Bool) {p q : Passed} → Ends Claim p → Ends Claim q → Ends Claim (cond b p q)
  ends_either true hp hq = hp
  ends_either false hp hq = hq

  -- a reading, then what comes after it
  pub ends_then : {Claim' : ℕ → Type 0} {p : Passed} (next : ℕ → List ℕ → Passed) → Ends Claim p
      → ((at : ℕ) (m : List ℕ) → Claim at → Ends Claim' (next at m)) → Ends Claim' (and_then p next)
  unfolding and_then
  ends_then next (there at m h) go = go at m h
  ends_then next (nowhere n p m) go = nowhere n p m

  -- a weaker claim
  pub ends_weaker : {Claim' : ℕ → Type 0} {p : Passed} → Ends Claim p → ((at : ℕ) → Claim at → Claim' at) → Ends Claim' p
  ends_weaker (there at m h) go = there at m (go at h)
  ends_weaker (nowhere n p m) go = nowhere n p m

  -- of the position that was answered
  pub ends_at : {p : Passed} (at : ℕ) → Ends Claim p → answer_of p ≡ good at → Claim at
  unfolding answer_of
  ends_at at (there q m h) e = let same : q ≡ at = cc in rw same at h
  ends_at at (nowhere n p m) e = absurd (cc)
