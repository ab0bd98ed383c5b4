-- A byte with a bit for each move.
--     bit_of       the bit of a move
--     HasMove      it is set
--     with_move    the byte with it set
use Rattle.std.specs.Prelude.{ℕ, zero, suc, ◌+◌, ◌/◌, ◌%◌, ◌≡◌, cond, eqb}

unfoldable pub bit_of : (move : ℕ) → ℕ
bit_of zero = 1
bit_of (suc zero) = 2
bit_of (suc (suc zero)) = 4
bit_of (suc (suc (suc m))) = 8

abbrev pub HasMove : (byte move : ℕ) → Type 0
HasMove byte move = byte / bit_of move % 2 ≡ 1

unfoldable pub with_move : (byte move : ℕ) → ℕ
with_move byte move = cond (eqb (byte / bit_of move % 2) 0) (byte + bit_of move) byte
