-- A slice that is lent, at exit.
-- Specification: section 6.1.
--     zeroed     its need made zero, and what lies past it as found
use Rattle.std.specs.Prelude.{ℕ, List, ◌++◌, drop, replicate}

-- with the first n made zero
unfoldable pub zeroed : (n : ℕ) → List ℕ → List ℕ
zeroed n xs = replicate n 0 ++ drop n xs
