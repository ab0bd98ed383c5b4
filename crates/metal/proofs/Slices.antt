-- A slice past its need, and its need made zero.
--     beyond_refl, beyond_trans       nothing done, and one thing after another, leave it as found
--     beyond_store                    so does a store in the need
--     beyond_by, beyond_at            the entries past the need
--     zeroed_bare, zeroed-beyond      made zero, the need is zero, and the rest is as found
--     zeroed_only                     where the need is zero and the rest as found, the slice is the one that
--                                     was found, made zero
--     zeroed_kept                     made zero, it does not matter what the need held
--     filled                          filled with zeros, it is made zero
use Prim.Native.Nat.{ℕ, ◌+◌, ◌-◌, ◌≤◌, ◌<◌}
use mathlib.Core.Path.{◌≡◌, refl, sym, ap, ◌∙◌}
use mathlib.Core.List.{List, ◌++◌}
use native.Mathlib.Omega.{arith}
use lib.ListN.{length, get_or, set, take, drop, replicate, length-append, take-append-drop, length-drop, length-set, length-replicate, get_or-replicate, get_or-append}
use lib.Seq.{length-take-le, drop_at, drop-set-lt, get_or-take, get_or-drop, ext_get_or}
use Rattle.metal.specs.Codes.{Beyond, Bare}
use Rattle.job.specs.Slices.{zeroed}

-- ---- past its need

-- nothing done leaves it as found
pub beyond_refl : (n : ℕ) (xs : List ℕ) → Beyond n xs xs
beyond_refl n xs = record { size = refl; rest = refl }

-- one thing after another that leaves it as found does so
pub beyond_trans : {n : ℕ} {a b c : List ℕ} → Beyond n a b → Beyond n b c → Beyond n a c
beyond_trans h k = record { size = h.size ∙ k.size; rest = h.rest ∙ k.rest }

-- a store in the need leaves the rest as found
pub beyond_store : (n v x : ℕ) (xs : List ℕ) → v < n → Beyond n (set xs v x) xs
beyond_store n v x xs h = record { size = length-set xs v x; rest = drop-set-lt n xs v x h }

-- where each entry past the need is as found, the rest is
pub beyond_by : {n : ℕ} {held found : List ℕ} → length held ≡ length found → ((j : ℕ) → n ≤ j → get_or held j 0 ≡ get_or found j 0) → Beyond n held found
beyond_by {n} {held} {found} long same =
    record {
      size = long;
      rest =
          ext_get_or 0 (drop n held) (drop n found) (length-drop n held ∙ ap (λ (x : ℕ). x - n) long ∙ sym (length-drop n found))
          (λ i h. get_or-drop n held i 0 ∙ same (n + i) (omega arith) ∙ sym (get_or-drop n found i 0));
    }

-- an entry past the need is as found
pub beyond_at : {n : ℕ} {held found : List ℕ} (v : ℕ) → Beyond n held found → n ≤ v → get_or held v 0 ≡ get_or found v 0
beyond_at {n} {held} {found} v kept h =
    let position : v ≡ n + (v - n) = omega arith in
    rw position (sym (get_or-drop n held (v - n) 0) ∙ ap (λ (xs : List ℕ). get_or xs (v - n) 0) kept.rest ∙ get_or-drop n found (v - n) 0)

-- ---- its need made zero

-- made zero, the need is zero
pub zeroed_bare : (n : ℕ) (xs : List ℕ) → Bare n (zeroed n xs)
unfolding Bare zeroed
zeroed_bare n xs v h =
    let long = length-replicate {A = ℕ} n 0 in
    get_or-append (replicate n 0) (drop n xs) 0 v (omega (arith, h, long)) ∙ get_or-replicate n v 0 0 h

-- and the rest is as found
pub zeroed-beyond : {n : ℕ} {xs : List ℕ} → n ≤ length xs → Beyond n (zeroed n xs) xs
unfolding zeroed
zeroed-beyond {n} {xs} h =
    let long = length-replicate {A = ℕ} n 0 in
    record {
      size = omega (arith, length-append (replicate n 0) (drop n xs), long, length-drop n xs);
      rest = drop_at (replicate n 0) (drop n xs) n (length-replicate n 0);
    }

-- a need that is zero is so many zeros
bare_take : (n : ℕ) (xs : List ℕ) → Bare n xs → n ≤ length xs → take n xs ≡ replicate n 0
unfolding Bare
bare_take n xs bare h =
    let long : length (take n xs) ≡ n = length-take-le n xs h in
    ext_get_or 0 (take n xs) (replicate n 0) (long ∙ sym (length-replicate n 0)) (λ i on.
    let below : i < n = omega (arith, on, long) in
    get_or-take n xs i 0 below ∙ bare i below ∙ sym (get_or-replicate n i 0 0 below))

-- where the need is zero and the rest as found, the slice is the one that was found, made zero
pub zeroed_only : {n : ℕ} {held found : List ℕ} → Beyond n held found → Bare n held → n ≤ length found → held ≡ zeroed n found
unfolding zeroed
zeroed_only {n} {held} {found} kept bare h =
    let long : n ≤ length held = omega (arith, kept.size) in
    sym (take-append-drop n held) ∙ rw (bare_take n held bare long, kept.rest)

-- made zero, it does not matter what the need held
pub zeroed_kept : {n : ℕ} {held found : List ℕ} → Beyond n held found → zeroed n held ≡ zeroed n found
unfolding zeroed
zeroed_kept {n} kept = ap (λ (xs : List ℕ). replicate n 0 ++ xs) kept.rest

-- filled with zeros up to n, it is made zero
pub filled : {n : ℕ} {zeros : List ℕ} (found : List ℕ) → n ≤ length found → zeros ≡ replicate (length (take n found)) 0 → zeros ++ drop n found ≡ zeroed n found
unfolding zeroed
filled {n} found h is = rw (is, length-take-le n found h) refl
