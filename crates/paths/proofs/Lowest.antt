-- The lowest of some numbers that passes a test.
--     lowest_here, lowest_next     it is the first where that passes, and else the lowest of the others
--     lowest_passes                where one passes, the lowest is no higher and passes
--     lowest_is                    one that passes, where no lower one does, is the lowest
--     lowest_one, lowest_none      it passes where it is one of them, and is past them where none passes
--     lowest_same                  tests that agree have the same lowest
use Prim.Native.Nat.{ℕ, zero, suc, ◌+◌, ◌≤◌, ◌<◌}
use native.Mathlib.Omega.{arith}
use native.Mathlib.Decide.{ℕ_discrete}
use mathlib.Core.Path.{◌≡◌, refl, sym, ◌∙◌}
use mathlib.Core.Bool.{Bool, true, false, true≢false}
use Rattle.paths.specs.Distances.{lowest_from}

module _ (test : ℕ → Bool) where
  -- with none left it is the one past them
  lowest_past : (m : ℕ) → lowest_from test m 0 ≡ m
  unfolding lowest_from
  lowest_past m = refl

  -- the first, where it passes
  pub lowest_here : (m n : ℕ) → test m ≡ true → lowest_from test m (suc n) ≡ m
  unfolding lowest_from
  lowest_here m n e = rw (e, lowest_from)

  -- the lowest of the others, where the first does not pass
  pub lowest_next : (m n : ℕ) → test m ≡ false → lowest_from test m (suc n) ≡ lowest_from test (suc m) n
  unfolding lowest_from
  lowest_next m n e = rw (e, lowest_from)

  -- a number that does not pass is none that does
  not_there : {m j : ℕ} → m ≤ j → test m ≡ false → test j ≡ true → m < j
  not_there {m} {j} h no-pass pass = by (ℕ_discrete m j)
    where
      by : Dec (m ≡ j) → m < j
      by (yes e) = absurd (true≢false (sym pass ∙ rw (← e) no-pass))
      by (no e) = omega arith

  -- where one passes, the lowest from m on is no higher and passes
  pub lowest_passes : (m n j : ℕ) → m ≤ j → j < m + n → test j ≡ true → (lowest_from test m n ≤ j) × (test (lowest_from test m n) ≡ true)
  lowest_passes m zero j h below pass = absurd (omega arith)
  lowest_passes m (suc n) j h below pass = by (test m) refl (λ later. lowest_passes (suc m) n j later (omega arith) pass)
    where
      by : (b : Bool) → test m ≡ b → (m < j → (lowest_from test (suc m) n ≤ j) × (test (lowest_from test (suc m) n) ≡ true))
          → (lowest_from test m (suc n) ≤ j) × (test (lowest_from test m (suc n)) ≡ true)
      by true e again = rw (lowest_here m n e) (h, e)
      by false e again = rw (lowest_next m n e) (again (not_there h e pass))

  -- one that passes, where no lower one does, is the lowest
  pub lowest_is : (n j : ℕ) → j < n → test j ≡ true → ((i : ℕ) → i < j → test i ≡ false) → lowest_from test 0 n ≡ j
  lowest_is n j below pass none = by (ℕ_discrete (lowest_from test 0 n) j) (lowest_passes 0 n j (omega arith) (omega arith) pass)
    where
      by : Dec (lowest_from test 0 n ≡ j) → (lowest_from test 0 n ≤ j) × (test (lowest_from test 0 n) ≡ true) → lowest_from test 0 n ≡ j
      by (yes e) p = e
      by (no e) (h, passes) = absurd (true≢false (sym passes ∙ none (lowest_from test 0 n) (omega arith)))

  -- where it is one of them it passes
  pub lowest_one : (m n : ℕ) → lowest_from test m n < m + n → test (lowest_from test m n) ≡ true
  lowest_one m zero h = absurd (omega (arith, lowest_past m))
  lowest_one m (suc n) h = by (test m) refl (lowest_one (suc m) n)
    where
      by : (b : Bool) → test m ≡ b → (lowest_from test (suc m) n < suc m + n → test (lowest_from test (suc m) n) ≡ true)
          → test (lowest_from test m (suc n)) ≡ true
      by true e again = rw (lowest_here m n e) e
      by false e again = rw (lowest_next m n e) (again (omega (arith, h, lowest_next m n e)))

  -- where none passes it is past them
  pub lowest_none : (m n : ℕ) → ((j : ℕ) → j < m + n → test j ≡ false) → lowest_from test m n ≡ m + n
  lowest_none m zero none = lowest_past m ∙ omega arith
  lowest_none m (suc n) none = lowest_next m n (none m (omega arith)) ∙ lowest_none (suc m) n (λ j h. none j (omega arith)) ∙ omega arith

-- two tests that agree below k have the same lowest
pub lowest_same : (test other : ℕ → Bool) (k : ℕ) → ((j : ℕ) → j < k → test j ≡ other j) → (m n : ℕ) → m + n ≤ k
    → lowest_from test m n ≡ lowest_from other m n
lowest_same test other k same m zero h = lowest_past test m ∙ sym (lowest_past other m)
lowest_same test other k same m (suc n) h = by (test m) refl (lowest_same test other k same (suc m) n (omega arith))
  where
    by : (b : Bool) → test m ≡ b → lowest_from test (suc m) n ≡ lowest_from other (suc m) n → lowest_from test m (suc n) ≡ lowest_from other m (suc n)
    by true e again = rw (lowest_here test m n e, lowest_here other m n (sym (same m (omega arith)) ∙ e))
    by false e again = rw (lowest_next test m n e, lowest_next other m n (sym (same m (omega arith)) ∙ e)) again
