-- Groups read one after the other: one law for every run of groups. A state goes from group to group, and
-- each group is told how many come after it.
--     Run           a run of groups: how one is read, what its bits and its rules are, and how the rest goes
--                   on
--     many_read     reading a run is good exactly where its bits stand there and its rules hold
--     groups_read   the same for groups of one width that are read with no state
use Prim.Native.Nat.{ℕ, zero, suc, ◌+◌}
use native.Mathlib.Omega.{arith}
use mathlib.Core.Path.{◌≡◌, refl, ap}
use mathlib.Core.Logic.{◌↔◌}
use mathlib.Core.List.{List, [], ◌∷◌, ◌++◌, flat_map}
use lib.ListN.{length}
use Rattle.job.specs.Reading.{Read, good, ◌>>=◌, read_many}
use Rattle.job.proofs.Binds.{bind_good}
use Rattle.job.proofs.TwoWay.Places.{Placed, placed_nil, placed-append}

pub record Run (B : List ℕ) (S A : Type 0) : Type 1 where
  -- one group: its bits, how many, its rules in a state and with so many groups after it, and the state
  -- behind it
  pub bits : A → List ℕ
  pub width : A → ℕ
  pub wide : (x : A) → length (bits x) ≡ width x
  pub Rules : S → (after : ℕ) → A → Type 0
  pub next : A → S → S
  pub read : S → (after at : ℕ) → Read A
  pub read_good : (s : S) (after at : ℕ) (x : A) → (read s after at ≡ good x) ↔ (Placed B at (bits x) × Rules s after x)
  -- the run: its rules, and how it is read
  pub AllRules : S → List A → Type 0
  pub no_rules : (s : S) → AllRules s []
  pub more_rules : (s : S) (x : A) (xs : List A) → AllRules s (x ∷ xs) ↔ (Rules s (length xs) x × AllRules (next x s) xs)
  pub many : S → (n at : ℕ) → Read (List A)
  pub many_zero : (s : S) (at : ℕ) → many s zero at ≡ good []
  pub many_suc : (s : S) (n at : ℕ)
      → many s (suc n) at ≡ ◌>>=◌ (read s n at) (λ x. ◌>>=◌ (many (next x s) n (at + width x)) (λ xs. good (x ∷ xs)))

-- a first and the rest are good where both are
cons_good : {A : Type 0} (r : Read A) (rest : A → Read (List A)) (x : A) (xs : List A)
    → (◌>>=◌ r (λ y. ◌>>=◌ (rest y) (λ ys. good (y ∷ ys))) ≡ good (x ∷ xs)) ↔ ((r ≡ good x) × (rest x ≡ good xs))
cons_good r rest x xs = (apart, together)
  where
    apart : ◌>>=◌ r (λ y. ◌>>=◌ (rest y) (λ ys. good (y ∷ ys))) ≡ good (x ∷ xs) → (r ≡ good x) × (rest x ≡ good xs)
    apart e =
        let (y, first, other) = (bind_good r _ (x ∷ xs)).0 e in
        let (ys, rests, last) = (bind_good (rest y) _ (x ∷ xs)).0 other in
        let same : y ≡ x = cc in
        (cc, cc)

    together : (r ≡ good x) × (rest x ≡ good xs) → ◌>>=◌ r (λ y. ◌>>=◌ (rest y) (λ ys. good (y ∷ ys))) ≡ good (x ∷ xs)
    together (first, rests) = (bind_good r _ (x ∷ xs)).1 (x, first, (bind_good (rest x) _ (x ∷ xs)).1 (xs, rests, refl))

-- a first and the rest are never the empty list
cons_some : {A : Type 0} (r : Read A) (rest : A → Read (List A)) → ◌>>=◌ r (λ y. ◌>>=◌ (rest y) (λ ys. good (y ∷ ys))) ≡ good [] → ⊥
cons_some r rest e =
    let (y, first, other) = (bind_good r _ []).0 e in
    let (ys, rests, last) = (bind_good (rest y) _ []).0 other in
    let z : ◌≡◌ {A = ℕ} 0 1 = cc in
    omega arith

module _ (B : List ℕ) {S A : Type 0} (r : Run B S A) where
  -- one more group, where the law holds of the rest
  many_more : (s : S) (n at : ℕ) (x : A) (xs : List A)
      → ((r.many (r.next x s) n (at + r.width x) ≡ good xs)
      ↔ ((length xs ≡ n) × (Placed B (at + r.width x) (flat_map r.bits xs) × r.AllRules (r.next x s) xs)))
      → (r.many s (suc n) at ≡ good (x ∷ xs))
      ↔ ((suc (length xs) ≡ suc n) × (Placed B at (r.bits x ++ flat_map r.bits xs) × r.AllRules s (x ∷ xs)))
  many_more s n at x xs rest =
      simp (r.many_suc, cons_good, r.read_good, rest, placed-append, r.more_rules, r.wide) (
        λ ((p, rule), (len, (ps, rules))). (ap suc len, ((p, ps), (rw len rule, rules))),
        λ (len, ((p, ps), (rule, rules))). let e : length xs ≡ n = omega arith in ((p, rw e at rule), (e, (ps, rules))),
      )

  pub many_read : (s : S) (n at : ℕ) (xs : List A)
      → (r.many s n at ≡ good xs) ↔ ((length xs ≡ n) × (Placed B at (flat_map r.bits xs) × r.AllRules s xs))
  unfolding flat_map
  many_read s zero at [] = (λ e. (refl, (placed_nil B at, r.no_rules s)), λ h. r.many_zero s at)
  many_read s zero at (x ∷ xs) =
      (λ e. let f = r.many_zero s at in let z : ◌≡◌ {A = ℕ} 0 1 = cc in absurd (omega arith), λ h. absurd (omega arith))
  many_read s (suc n) at [] = (λ e. absurd (cons_some _ _ (rw r.many_suc at e)), λ h. absurd (omega arith))
  many_read s (suc n) at (x ∷ xs) = many_more s n at x xs (many_read (r.next x s) n (at + r.width x) xs)

-- groups of one width that are read with no state
pub groups_read : (B : List ℕ) {A : Type 0} (width : ℕ) (bits : A → List ℕ)
    → ((x : A) → length (bits x) ≡ width)
    → (read : (after at : ℕ) → Read A) (Rules : ℕ → A → Type 0)
    → ((after at : ℕ) (x : A) → (read after at ≡ good x) ↔ (Placed B at (bits x) × Rules after x))
    → (AllRules : List A → Type 0)
    → AllRules []
    → ((x : A) (xs : List A) → AllRules (x ∷ xs) ↔ (Rules (length xs) x × AllRules xs))
    → (n at : ℕ) (xs : List A)
    → (read_many width read n at ≡ good xs) ↔ ((length xs ≡ n) × (Placed B at (flat_map bits xs) × AllRules xs))
unfolding read_many
groups_read B {A} width bits wide read Rules read_good AllRules no_rules more_rules = many_read B run tt
  where
    run : Run B Unit A
    run =
        record {
          bits = bits;
          width = λ x. width;
          wide = wide;
          Rules = λ s. Rules;
          next = λ x s. s;
          read = λ s. read;
          read_good = λ s. read_good;
          AllRules = λ s. AllRules;
          no_rules = λ s. no_rules;
          more_rules = λ s. more_rules;
          many = λ s. read_many width read;
          many_zero = λ s at. refl;
          many_suc = λ s n at. refl;
        }
