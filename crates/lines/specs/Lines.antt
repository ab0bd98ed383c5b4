-- The line that the program writes, as ASCII codes; a newline ends it.
-- Specification: section 6.6.
--     hex_line          a plan: each byte as two capital hexadecimal digits, a space between two bytes; for
--                       no
--                     bytes an empty line
--     refused_line      `refused N at P`, both decimal
--     too_large_line    `too large`
-- `decimal` counts its recursion down by fuel: `decimal_small` and `decimal-more` (proofs/Decimals.antt) are
-- the two equations to read it by, and `value_decimal` says that the digits are those of the number.
use Rattle.std.specs.Prelude.{ℕ, zero, suc, ◌+◌, ◌/◌, ◌%◌, cond, List, [], ◌∷◌, ◌++◌, ltb}

abbrev pub newline : ℕ
newline = 10

abbrev pub space : ℕ
space = 32

-- ---- hexadecimal

-- a digit below 16: `0` to `9` are 48 to 57, `A` to `F` are 65 to 70
abbrev pub digit : ℕ → ℕ
digit d = cond (ltb d 10) (48 + d) (55 + d)

-- a byte's two digits, and the codes after them
unfoldable pub hex_byte : (byte : ℕ) (after : List ℕ) → List ℕ
hex_byte byte after = digit (byte / 16) ∷ digit (byte % 16) ∷ after

-- each byte after the first has a space before it
unfoldable pub hex_more : List ℕ → List ℕ
hex_more [] = newline ∷ []
hex_more (b ∷ bs) = space ∷ hex_byte b (hex_more bs)

unfoldable pub hex_line : List ℕ → List ℕ
hex_line [] = newline ∷ []
hex_line (b ∷ bs) = hex_byte b (hex_more bs)

-- ---- decimal

-- the digits of a number: those of its tenth, then its last; `0` is 48
unfoldable pub decimal_by : (fuel n : ℕ) → List ℕ
decimal_by zero n = (48 + n) ∷ []
decimal_by (suc fuel) n = cond (ltb n 10) ((48 + n) ∷ []) (decimal_by fuel (n / 10) ++ ((48 + n % 10) ∷ []))

-- the number itself is fuel enough
unfoldable pub decimal : ℕ → List ℕ
decimal n = decimal_by n n

-- ---- the lines in words

-- `refused `
abbrev pub refused_text : List ℕ
refused_text = 114 ∷ 101 ∷ 102 ∷ 117 ∷ 115 ∷ 101 ∷ 100 ∷ 32 ∷ []

-- ` at `
abbrev pub at_text : List ℕ
at_text = 32 ∷ 97 ∷ 116 ∷ 32 ∷ []

-- the refusal's number, and its place
unfoldable pub refused_line : (n p : ℕ) → List ℕ
refused_line n p = refused_text ++ (decimal n ++ (at_text ++ (decimal p ++ newline ∷ [])))

-- `too large`
unfoldable pub too_large_line : List ℕ
too_large_line = 116 ∷ 111 ∷ 111 ∷ 32 ∷ 108 ∷ 97 ∷ 114 ∷ 103 ∷ 101 ∷ newline ∷ []
