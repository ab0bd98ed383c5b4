-- The code of the metal on a vertex, with more metal of a net.
--     code_empty      nets with no metal leave it
--     code_alike      it goes by whether the vertex is there, not by the list
--     code_apart      with none of it on the vertex it stays
--     code_laid       with some of it on the vertex it is the code with that net laid
use Prim.Native.Nat.{ℕ, zero, suc, ◌+◌, ◌<◌}
use mathlib.Core.Path.{◌≡◌, refl, sym, ap, ◌∙◌}
use mathlib.Core.Logic.{◌⊎◌, inl, inr}
use mathlib.Core.List.{List, [], ◌∷◌, ◌++◌, append-nil}
use mathlib.Core.Bool.{Bool, true, false, ◌||◌, cond, or-true}
use native.Mathlib.Nat.{not-suc-le-zero, le_of_suc-le-suc}
use native.Mathlib.Omega.{arith}
use lib.ListN.{length}
use borrow.Author.Tests.{ne_eqb}
use Rattle.job.specs.Lists.{any, All}
use Rattle.rules.specs.Views.{member}
use Rattle.rules.specs.Standings.{more}
use Rattle.rules.specs.Maps.{net_code}
use Rattle.rules.proofs.Members.{member_both}
use Rattle.metal.specs.Codes.{laid_code}
use Rattle.metal.proofs.Laid.{laid_other, laid_own, laid_several}

-- with no metal more it is the same metal
more_none : (k : ℕ) (metal : List (List ℕ)) → more k [] metal ≡ metal
unfolding more
more_none k [] = refl
more_none zero (own ∷ others) = rw append-nil
more_none (suc k) (other ∷ rest) = rw (more_none k rest)

-- a vertex's code after net n, which holds it or not
abbrev after : (code n : ℕ) → Bool → ℕ
after zero n held = cond held n zero
after (suc c) n held = cond held 256 (suc c)

-- the code tells of nets before n, or of several
abbrev Told : (n code : ℕ) → Type 0
Told n code = (code < n) ⊎ (code ≡ 256)

-- so does the code after net n
told_after : (code n : ℕ) (b : Bool) → Told (suc n) code → Told (suc (suc n)) (after code (suc n) b)
told_after zero n true h = inl (omega arith)
told_after zero n false h = inl (omega arith)
told_after (suc c) n true h = inr refl
told_after (suc c) n false (inl h) = inl (omega arith)
told_after (suc c) n false (inr h) = inr h

-- net n on a vertex of nets before it
told_laid : (n c : ℕ) → Told n (suc c) → laid_code n (suc c) ≡ 256
told_laid n c (inl h) = laid_other n (suc c) (λ e. omega (arith, e)) (λ e. omega (arith, e, h))
told_laid n c (inr h) = rw h (laid_several n)

module _ (v : ℕ) where
  -- one net, then the others
  code_step : (code n : ℕ) (m : List ℕ) (ms : List (List ℕ)) → net_code code n (m ∷ ms) v ≡ net_code (after code n (member v m)) (suc n) ms v
  unfolding net_code
  code_step zero n m ms = refl
  code_step (suc c) n m ms = rw (ne_eqb (suc c) 0 (λ e. omega (arith, e))) refl

  -- nets with no metal leave it
  pub code_empty : (code n : ℕ) (metal : List (List ℕ)) → All (λ m. m ≡ []) metal → net_code code n metal v ≡ code
  unfolding net_code All member any
  code_empty code n [] none = refl
  code_empty zero n (m ∷ ms) none = rw none.0 (code_empty zero (suc n) ms none.1)
  code_empty (suc c) n (m ∷ ms) none = rw none.0 (code_empty (suc c) (suc n) ms none.1)

  -- ---- by whether the vertex is there

  -- the code goes by whether the vertex is in the metal that is added, not by its list
  pub code_alike : (code n k : ℕ) (xs ys : List ℕ) (metal : List (List ℕ)) → member v xs ≡ member v ys
      → net_code code n (more k xs metal) v ≡ net_code code n (more k ys metal) v
  unfolding more
  code_alike code n k xs ys [] e = refl
  code_alike code n zero xs ys (own ∷ others) e =
      let there : member v (own ++ xs) ≡ member v (own ++ ys) = rw (member_both v own xs, member_both v own ys, e) refl in
      code_step code n (own ++ xs) others ∙ ap (λ (b : Bool). net_code (after code n b) (suc n) others v) there
      ∙ sym (code_step code n (own ++ ys) others)
  code_alike code n (suc k) xs ys (other ∷ rest) e =
      code_step code n other (more k xs rest) ∙ code_alike (after code n (member v other)) (suc n) k xs ys rest e
      ∙ sym (code_step code n other (more k ys rest))

  -- with none of the metal that is added on the vertex its code stays
  pub code_apart : (code n k : ℕ) (vs : List ℕ) (metal : List (List ℕ)) → member v vs ≡ false
      → net_code code n (more k vs metal) v ≡ net_code code n metal v
  unfolding member any
  code_apart code n k vs metal e = code_alike code n k vs [] metal e ∙ ap (λ (ms : List (List ℕ)). net_code code n ms v) (more_none k metal)

  -- ---- with some of it on the vertex

  -- a code that is not 0 stays, or there are several nets
  code_kept : (c n : ℕ) (ms : List (List ℕ)) → net_code (suc c) n ms v ≡ cond (any (member v) ms) 256 (suc c)
  unfolding net_code any
  code_kept c n [] = refl
  code_kept c n (m ∷ ms) = code_step (suc c) n m ms ∙ by (member v m) (code_kept 255 (suc n) ms) (code_kept c (suc n) ms)
    where
      same : (b : Bool) → ◌≡◌ {A = ℕ} (cond b 256 256) 256
      same true = refl
      same false = refl

      by : (b : Bool) → net_code 256 (suc n) ms v ≡ cond (any (member v) ms) 256 256
          → net_code (suc c) (suc n) ms v ≡ cond (any (member v) ms) 256 (suc c)
          → net_code (cond b 256 (suc c)) (suc n) ms v ≡ cond (b || any (member v) ms) 256 (suc c)
      by true several one = several ∙ same (any (member v) ms)
      by false several one = one

  -- so what laying a net makes of it is made of the whole
  kept_laid : (m c x n : ℕ) (ms : List (List ℕ)) → laid_code m (suc c) ≡ suc x → laid_code m (net_code (suc c) n ms v) ≡ net_code (suc x) n ms v
  kept_laid m c x n ms e = rw (code_kept c n ms, code_kept x n ms) (by (any (member v) ms))
    where
      by : (b : Bool) → laid_code m (cond b 256 (suc c)) ≡ cond b 256 (suc x)
      by true = laid_several m
      by false = e

  -- a net laid where nothing was before the nets after it
  first_laid : (m n : ℕ) (ms : List (List ℕ)) → m < n → laid_code (suc m) (net_code 0 (suc n) ms v) ≡ net_code (suc m) (suc n) ms v
  unfolding net_code laid_code
  first_laid m n [] h = refl
  first_laid m n (l ∷ ls) h =
      ap (laid_code (suc m)) (code_step 0 (suc n) l ls) ∙ by (member v l) (first_laid m (suc n) ls (omega arith)) ∙ sym (code_step (suc m) (suc n) l ls)
    where
      by : (b : Bool) → laid_code (suc m) (net_code 0 (suc (suc n)) ls v) ≡ net_code (suc m) (suc (suc n)) ls v
          → laid_code (suc m) (net_code (after 0 (suc n) b) (suc (suc n)) ls v) ≡ net_code (after (suc m) (suc n) b) (suc (suc n)) ls v
      by true rest = kept_laid (suc m) n 255 (suc (suc n)) ls (laid_other (suc m) (suc n) (λ e. omega (arith, e)) (λ e. omega (arith, e, h)))
      by false rest = rest

  -- a net laid beside what the nets before it made, whether it was there or not
  here_laid : (code n : ℕ) (b : Bool) (ms : List (List ℕ)) → Told (suc n) code
      → net_code (after code (suc n) true) (suc (suc n)) ms v ≡ laid_code (suc n) (net_code (after code (suc n) b) (suc (suc n)) ms v)
  here_laid zero n true ms h = sym (kept_laid (suc n) n n (suc (suc n)) ms (laid_own (suc n)))
  here_laid zero n false ms h = sym (first_laid n (suc n) ms (omega arith))
  here_laid (suc c) n true ms h = sym (kept_laid (suc n) 255 255 (suc (suc n)) ms (laid_several (suc n)))
  here_laid (suc c) n false ms h = sym (kept_laid (suc n) c 255 (suc (suc n)) ms (told_laid (suc n) c h))

  -- with some of the metal that is added on the vertex its code is the code with that net laid
  pub code_laid : (code n k m : ℕ) (vs : List ℕ) (metal : List (List ℕ)) → member v vs ≡ true → k < length metal → Told (suc n) code → suc n + k ≡ m
      → net_code code (suc n) (more k vs metal) v ≡ laid_code m (net_code code (suc n) metal v)
  unfolding more
  code_laid code n k m vs [] e h told is = absurd (not-suc-le-zero h)
  code_laid code n zero m vs (own ∷ others) e h told is =
      let there : member v (own ++ vs) ≡ true = member_both v own vs ∙ rw e (or-true (member v own)) in
      let number : m ≡ suc n = omega arith in
      code_step code (suc n) (own ++ vs) others ∙ ap (λ (b : Bool). net_code (after code (suc n) b) (suc (suc n)) others v) there
      ∙ here_laid code n (member v own) others told
      ∙ rw number (ap (laid_code (suc n)) (sym (code_step code (suc n) own others)))
  code_laid code n (suc k) m vs (other ∷ rest) e h told is =
      code_step code (suc n) other (more k vs rest)
      ∙ code_laid (after code (suc n) (member v other)) (suc n) k m vs rest e (le_of_suc-le-suc h) (told_after code n (member v other) told) (omega arith)
      ∙ ap (laid_code m) (sym (code_step code (suc n) other rest))
