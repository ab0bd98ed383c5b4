-- What moves did, with one move more at the end.
--     total_then         a sum over them
--     vertices_then      the vertices that they entered
--     laid_then          the vertices that they laid
use Prim.Native.Nat.{ℕ, ◌+◌}
use mathlib.Core.Path.{◌≡◌, refl, sym, ap, ◌∙◌}
use mathlib.Core.List.{List, [], ◌∷◌, ◌++◌, flat_map, append_assoc, append-nil}
use native.Mathlib.Omega.{arith}
use Rattle.rules.specs.Steps.{Made}
use Rattle.rules.specs.Walks.{vertices_of, laid_of, total}

-- a sum over moves
pub total_then : (number : Made → ℕ) (ms : List Made) (m : Made) → total number (ms ++ (m ∷ [])) ≡ total number ms + number m
unfolding total
total_then number [] m = omega arith
total_then number (x ∷ xs) m = omega (arith, total_then number xs m)

-- the vertices entered
pub vertices_then : (ms : List Made) (m : Made) → vertices_of (ms ++ (m ∷ [])) ≡ vertices_of ms ++ (m.next.vertex ∷ [])
vertices_then [] m = refl
vertices_then (x ∷ xs) m = ap (λ (vs : List ℕ). x.next.vertex ∷ vs) (vertices_then xs m)

-- the vertices laid
pub laid_then : (ms : List Made) (m : Made) → laid_of (ms ++ (m ∷ [])) ≡ laid_of ms ++ m.laid
unfolding flat_map
laid_then [] m = append-nil m.laid
laid_then (x ∷ xs) m = ap (λ (vs : List ℕ). x.laid ++ vs) (laid_then xs m) ∙ sym (append_assoc x.laid (laid_of xs) m.laid)
