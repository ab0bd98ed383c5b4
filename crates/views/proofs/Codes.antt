-- Another net's metal, told by the map's code.
--     code_none, code_many, code_more, code_some    the code where no, several, more, some nets' metal covers
--                                                   a vertex
--     taken_code_lem                                a vertex is taken where its code is neither 0 nor the
--                                                   net's own
--     holds_at, code_own                            whether a net's list holds a vertex: it does where the
--                                                   code is the net's own
use Prim.Native.Nat.{ℕ, zero, suc, ◌+◌, ◌≤◌, ◌<◌}
use mathlib.Core.Path.{◌≡◌, refl, sym, ap, ◌∙◌}
use mathlib.Core.List.{List, [], ◌∷◌}
use mathlib.Core.Bool.{Bool, true, false, ◌||◌, not, and-false}
use native.Mathlib.Omega.{arith}
use lib.ListN.{length}
use lib.Dec.{eqb}
use borrow.Author.Tests.{eq-eqb, ne_eqb}
use Rattle.job.specs.Lists.{any}
use Rattle.rules.specs.Views.{member, others_hold}
use Rattle.rules.specs.Maps.{net_code}
use Rattle.rules.proofs.Members.{not_both}
use Rattle.views.specs.Sight.{taken_code}

-- ---- the code of a vertex

-- no net's metal covers it: the code stays
code_none : (code n : ℕ) (metal : List (List ℕ)) (v : ℕ) → any (member v) metal ≡ false → net_code code n metal v ≡ code
unfolding net_code any
code_none code n [] v h = refl
code_none code n (m ∷ ms) v h = by (member v m) refl h (code_none code (suc n) ms v)
  where
    by : (b : Bool) → member v m ≡ b → (b || any (member v) ms) ≡ false → (any (member v) ms ≡ false → net_code code (suc n) ms v ≡ code)
        → net_code code n (m ∷ ms) v ≡ code
    by true e k rest = absurd (not_both refl k)
    by false e k rest = rw (net_code, e) (rest k)

-- several nets' metal covers it already
code_many : (n : ℕ) (metal : List (List ℕ)) (v : ℕ) → net_code 256 n metal v ≡ 256
unfolding net_code
code_many n [] v = refl
code_many n (m ∷ ms) v = by (member v m) refl (code_many (suc n) ms v)
  where
    by : (b : Bool) → member v m ≡ b → net_code 256 (suc n) ms v ≡ 256 → net_code 256 n (m ∷ ms) v ≡ 256
    by true e rest = rw (net_code, e) rest
    by false e rest = rw (net_code, e) rest

-- one net's metal covers it already, and then another's
code_more : (code n : ℕ) (metal : List (List ℕ)) (v : ℕ) → any (member v) metal ≡ true → net_code (suc code) n metal v ≡ 256
unfolding net_code any
code_more code n [] v h = absurd (not_both h refl)
code_more code n (m ∷ ms) v h = by (member v m) refl h (code_more code (suc n) ms v)
  where
    by : (b : Bool) → member v m ≡ b → (b || any (member v) ms) ≡ true → (any (member v) ms ≡ true → net_code (suc code) (suc n) ms v ≡ 256)
        → net_code (suc code) n (m ∷ ms) v ≡ 256
    by true e k rest = rw (net_code, e, ne_eqb (suc code) 0 (λ z. omega (arith, z))) (code_many (suc n) ms v)
    by false e k rest = rw (net_code, e) (rest k)

-- some net's metal covers it: the code is no number before the first of them
code_some : (n : ℕ) (metal : List (List ℕ)) (v : ℕ) → n + length metal ≤ 255 → any (member v) metal ≡ true → n < net_code 0 (suc n) metal v
unfolding net_code any
code_some n [] v few h = absurd (not_both h refl)
code_some n (m ∷ ms) v few h = by (member v m) (any (member v) ms) refl refl h (code_some (suc n) ms v (omega arith))
  where
    by : (b c : Bool) → member v m ≡ b → any (member v) ms ≡ c → (b || c) ≡ true → (any (member v) ms ≡ true → suc n < net_code 0 (suc (suc n)) ms v)
        → n < net_code 0 (suc n) (m ∷ ms) v
    by true true e f k rest = rw (net_code, e) (omega (arith, code_more n (suc (suc n)) ms v f))
    by true false e f k rest = rw (net_code, e) (omega (arith, code_none (suc n) (suc (suc n)) ms v f))
    by false true e f k rest = rw (net_code, e) (omega (arith, rest f))
    by false false e f k rest = absurd (not_both k refl)

-- ---- taken or not

-- the net's own code tells of no other net
taken_own : (n : ℕ) → taken_code n n ≡ false
unfolding taken_code
taken_own n = rw (eq-eqb n n refl) (and-false (not (eqb n 0)))

-- any other code but 0 does
taken_other : (n code : ℕ) → 0 < code → (code ≡ n → ⊥) → taken_code n code ≡ true
unfolding taken_code
taken_other n code some ne = rw (ne_eqb code 0 (λ e. omega (arith, e, some)), ne_eqb code n ne) refl

-- among nets numbered from one on
taken_from : (n : ℕ) (metal : List (List ℕ)) (k v : ℕ) → k < length metal → n + length metal ≤ 255
    → others_hold k metal v ≡ taken_code (suc (n + k)) (net_code 0 (suc n) metal v)
unfolding others_hold net_code any taken_code
taken_from n [] k v on few = absurd (omega (arith, on))
taken_from n (own ∷ others) zero v on few = by (member v own) (any (member v) others) refl refl
  where
    by : (b c : Bool) → member v own ≡ b → any (member v) others ≡ c → c ≡ taken_code (suc (n + 0)) (net_code 0 (suc n) (own ∷ others) v)
    by true true e f = rw (e, code_more n (suc (suc n)) others v f) (sym (taken_other (suc (n + 0)) 256 (omega arith) (λ q. omega (arith, q))))
    by true false e f =
        let first : n + 0 ≡ n = omega arith in
        rw (e, code_none (suc n) (suc (suc n)) others v f, first) (sym (taken_own (suc n)))
    by false true e f =
        let some = code_some (suc n) others v (omega arith) f in
        rw e (sym (taken_other (suc (n + 0)) (net_code 0 (suc (suc n)) others v) (omega arith) (λ q. omega (arith, q))))
    by false false e f = rw (e, code_none 0 (suc (suc n)) others v f) refl
taken_from n (other ∷ rest) (suc k) v on few = by (member v other) (any (member v) rest) refl refl (taken_from (suc n) rest k v (omega arith) (omega arith))
  where
    by : (b c : Bool) → member v other ≡ b → any (member v) rest ≡ c → others_hold k rest v ≡ taken_code (suc (suc n + k)) (net_code 0 (suc (suc n)) rest v)
        → (b || others_hold k rest v) ≡ taken_code (suc (n + suc k)) (net_code 0 (suc n) (other ∷ rest) v)
    by true true e f later =
        rw (e, code_more n (suc (suc n)) rest v f) (sym (taken_other (suc (n + suc k)) 256 (omega arith) (λ q. omega (arith, q))))
    by true false e f later =
        rw (e, code_none (suc n) (suc (suc n)) rest v f) (sym (taken_other (suc (n + suc k)) (suc n) (omega arith) (λ q. omega (arith, q))))
    by false c e f later = let number : suc n + k ≡ n + suc k = omega arith in rw (e, ← number) later

-- "A vertex is taken when another net's metal, extensions included, covers it."
pub taken_code_lem : (metal : List (List ℕ)) (k v : ℕ) → k < length metal → length metal ≤ 255
    → others_hold k metal v ≡ taken_code (suc k) (net_code 0 1 metal v)
taken_code_lem metal k v on few =
    let number : 0 + k ≡ k = omega arith in
    rw number at (taken_from 0 metal k v on (omega arith))

-- ---- the net's own

-- whether the k-th list holds the vertex
unfoldable pub holds_at : (k : ℕ) → List (List ℕ) → (v : ℕ) → Bool
holds_at k [] v = false
holds_at zero (own ∷ others) v = member v own
holds_at (suc k) (other ∷ rest) v = holds_at k rest v

-- some list holds it and no other does
held_alone : (metal : List (List ℕ)) (k v : ℕ) → any (member v) metal ≡ true → others_hold k metal v ≡ false → holds_at k metal v ≡ true
unfolding any others_hold holds_at
held_alone [] k v some none = some
held_alone (own ∷ others) zero v some none = by (member v own) (any (member v) others) some none
  where
    by : (b c : Bool) → (b || c) ≡ true → c ≡ false → b ≡ true
    by true c e f = refl
    by false c e f = absurd (not_both e f)
held_alone (other ∷ rest) (suc k) v some none = by (member v other) (others_hold k rest v) some none (held_alone rest k v)
  where
    by : (b c : Bool) → (b || any (member v) rest) ≡ true → (b || c) ≡ false → (any (member v) rest ≡ true → c ≡ false → holds_at k rest v ≡ true)
        → holds_at k rest v ≡ true
    by true c e f rest = absurd (not_both refl f)
    by false c e f rest = rest e f

-- the net's own code: its list holds the vertex
pub code_own : (metal : List (List ℕ)) (k v : ℕ) → k < length metal → length metal ≤ 255 → net_code 0 1 metal v ≡ suc k → holds_at k metal v ≡ true
code_own metal k v on few code = by (any (member v) metal) refl
  where
    by : (b : Bool) → any (member v) metal ≡ b → holds_at k metal v ≡ true
    by true e = held_alone metal k v e (taken_code_lem metal k v on few ∙ ap (taken_code (suc k)) code ∙ taken_own (suc k))
    by false e = absurd (omega (arith, code, code_none 0 1 metal v e))
