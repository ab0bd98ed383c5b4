-- A net laid on vertices.
--     laid_bare, laid_other         a net on a bare vertex, and on one of another net
--     laid_own, laid_several        on a vertex that it has alone, and on one of several nets
--     map_own                       a vertex that the net has alone keeps its code
--     laid_at                       a vertex's code: laid if it is one of them, else as it was
--     laid_beyond                   from their bound on the slice is as found
--     laid_append, laid_then        one list of vertices after the other; one vertex more
--     laid_length                   the slice is as long
use Prim.Native.Nat.{ℕ, ◌≤◌, ◌<◌}
use mathlib.Core.Path.{◌≡◌, refl, sym, ap, ◌∙◌}
use mathlib.Core.List.{List, [], ◌∷◌, ◌++◌}
use mathlib.Core.Bool.{Bool, true, false, ◌||◌, cond}
use native.Mathlib.Omega.{arith}
use lib.ListN.{length, get_or, set, length-set}
use lib.Seq.{get_or-set_same, get_or-set_other, set-get_or}
use lib.Dec.{eqb}
use borrow.Author.Tests.{eqb-true, eqb-false, eq-eqb, ne_eqb}
use Rattle.job.specs.Lists.{any, All}
use Rattle.rules.specs.Views.{member}
use Rattle.metal.specs.Codes.{laid_code, lay_all, Beyond}
use Rattle.metal.proofs.Slices.{beyond_refl, beyond_trans, beyond_store}

-- a net on a vertex that it has alone
pub laid_own : (m : ℕ) → laid_code m m ≡ m
unfolding laid_code
laid_own m = rw (eq-eqb m m refl) (by (eqb m 0))
  where
    by : (b : Bool) → cond b m m ≡ m
    by true = refl
    by false = refl

-- so the map stays
pub map_own : (m : ℕ) (codes : List ℕ) (v : ℕ) → get_or codes v 0 ≡ m → codes ≡ set codes v (laid_code m (get_or codes v 0))
map_own m codes v e =
    let same : laid_code m (get_or codes v 0) ≡ get_or codes v 0 = rw e (laid_own m) in
    sym (ap (set codes v) same ∙ set-get_or codes v 0)

-- a net on a vertex of several nets
pub laid_several : (m : ℕ) → laid_code m 256 ≡ 256
unfolding laid_code
laid_several m = by (eqb 256 m) refl
  where
    by : (b : Bool) → eqb 256 m ≡ b → cond b m 256 ≡ 256
    by true e = sym (eqb-true 256 m e)
    by false e = refl

-- a net on a bare vertex
pub laid_bare : (m code : ℕ) → code ≡ 0 → laid_code m code ≡ m
unfolding laid_code
laid_bare m code e = rw e

-- a net on a vertex of another
pub laid_other : (m code : ℕ) → (code ≡ 0 → ⊥) → (code ≡ m → ⊥) → laid_code m code ≡ 256
unfolding laid_code
laid_other m code some apart = rw (ne_eqb code 0 some, ne_eqb code m apart) refl

-- laid once more, a code stays
laid_twice : (m code : ℕ) → laid_code m (laid_code m code) ≡ laid_code m code
unfolding laid_code
laid_twice m code = by (eqb code 0) (eqb code m)
  where
    by : (b c : Bool) → laid_code m (cond b m (cond c m 256)) ≡ cond b m (cond c m 256)
    by true c = laid_own m
    by false true = laid_own m
    by false false = laid_several m

-- a vertex's code: laid if it is one of them, else as it was
pub laid_at : (n m : ℕ) (vs codes : List ℕ) (w : ℕ) → All (λ v. v < n) vs → n ≤ length codes
    → get_or (lay_all m vs codes) w 0 ≡ cond (member w vs) (laid_code m (get_or codes w 0)) (get_or codes w 0)
unfolding lay_all member any All
laid_at n m [] codes w h on = refl
laid_at n m (v ∷ vs) codes w h on =
    let x = laid_code m (get_or codes v 0) in
    laid_at n m vs (set codes v x) w h.1 (rw (length-set codes v x) on) ∙ by (eqb w v) refl
  where
    again : (b : Bool) (x : ℕ) → laid_code m x ≡ x → cond b (laid_code m x) x ≡ x
    again true x e = e
    again false x e = refl

    by : (b : Bool) → eqb w v ≡ b → (let after = get_or (set codes v (laid_code m (get_or codes v 0))) w 0 in cond (member w vs) (laid_code m after) after)
        ≡ cond (b || member w vs) (laid_code m (get_or codes w 0)) (get_or codes w 0)
    by true e =
        let here : get_or (set codes v (laid_code m (get_or codes v 0))) w 0 ≡ laid_code m (get_or codes w 0) = rw (eqb-true w v e) (get_or-set_same codes v (laid_code m (get_or codes v 0)) 0 (omega (arith, h.0, on))) in
        rw here (again (member w vs) (laid_code m (get_or codes w 0)) (laid_twice m (get_or codes w 0)))
    by false e = rw (get_or-set_other codes v w (laid_code m (get_or codes v 0)) 0 (eqb-false w v e)) refl

-- from their bound on the slice is as found
pub laid_beyond : (n m : ℕ) (vs codes : List ℕ) → All (λ v. v < n) vs → Beyond n (lay_all m vs codes) codes
unfolding lay_all All
laid_beyond n m [] codes h = beyond_refl n codes
laid_beyond n m (v ∷ vs) codes h =
    let x = laid_code m (get_or codes v 0) in
    beyond_trans (laid_beyond n m vs (set codes v x) h.1) (beyond_store n v x codes h.0)

-- one list of vertices after the other
pub laid_append : (m : ℕ) (xs ys codes : List ℕ) → lay_all m (xs ++ ys) codes ≡ lay_all m ys (lay_all m xs codes)
unfolding lay_all
laid_append m [] ys codes = refl
laid_append m (x ∷ xs) ys codes = laid_append m xs ys (set codes x (laid_code m (get_or codes x 0)))

-- it is as long
pub laid_length : (m : ℕ) (vs codes : List ℕ) → length (lay_all m vs codes) ≡ length codes
unfolding lay_all
laid_length m [] codes = refl
laid_length m (v ∷ vs) codes = laid_length m vs (set codes v (laid_code m (get_or codes v 0))) ∙ length-set codes v _

-- a list of vertices, and then one more
pub laid_then : (m : ℕ) (vs : List ℕ) (w : ℕ) (codes : List ℕ) {mid last : List ℕ} → mid ≡ lay_all m vs codes → last ≡ set mid w (laid_code m (get_or mid w 0))
    → last ≡ lay_all m (vs ++ (w ∷ [])) codes
unfolding lay_all
laid_then m vs w codes first then = then ∙ ap (λ (c : List ℕ). set c w (laid_code m (get_or c w 0))) first ∙ sym (laid_append m vs (w ∷ []) codes)
