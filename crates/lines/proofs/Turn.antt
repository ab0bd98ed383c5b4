-- What the loops of this crate lean on, over plain numbers and lists. `line₀` is the slice as found, `codes`
-- what is to be put into it from `at` on, and `line` the slice as it stands.
--     ToPut, put_one, put_some, put_done     what is still to be put; one code put; a few; all
--     length_more, more_turn, more_done      the loop that puts bytes
--     hex_none, hex_some, length_line        a line of no bytes, and of some; how long it is
use Prim.Native.Nat.{ℕ, zero, suc, ◌+◌, ◌-◌, ◌*◌, ◌/◌, ◌%◌, ◌≤◌, ◌<◌}
use mathlib.Core.Path.{◌≡◌, refl, sym, ◌∙◌}
use mathlib.Core.List.{List, [], ◌∷◌, ◌++◌}
use native.Mathlib.Nat.{not-suc-le-zero}
use native.Mathlib.Numerals.{add-one}
use native.Mathlib.Omega.{arith}
use lib.ListN.{length, take, drop, get_or, set, length-set, length-drop, drop_of_length-le}
use lib.Seq.{sets, length-sets, drop-cons, length-take-le, get_or-take}
use Rattle.std.proofs.lemmas.List.{take_all}
use Rattle.lines.specs.Lines.{space, newline, hex_byte, hex_more, hex_line}
use Rattle.lines.proofs.Putting.{sets_append}

-- to put the rest from next on is all that is still to do
pub record ToPut (line₀ : List ℕ) (at : ℕ) (codes : List ℕ) (line : List ℕ) (next : ℕ) (rest : List ℕ) : Type 0 where
  pub same : sets line next rest ≡ sets line₀ at codes
  pub kept : length line ≡ length line₀

module _ (line₀ : List ℕ) (at : ℕ) (codes line : List ℕ) (next : ℕ) where
  pub put_one : (c : ℕ) (rest : List ℕ) → ToPut line₀ at codes line next (c ∷ rest) → ToPut line₀ at codes (set line next c) (suc next) rest
  put_one c rest p = record { same = p.same; kept = length-set line next c ∙ p.kept }

  pub put_some : (some rest : List ℕ) → ToPut line₀ at codes line next (some ++ rest) → ToPut line₀ at codes (sets line next some) (next + length some) rest
  put_some some rest p = record { same = sym (sets_append line next some rest) ∙ p.same; kept = length-sets line next some ∙ p.kept }

  pub put_done : (rest : List ℕ) → ToPut line₀ at codes line next rest → rest ≡ [] → line ≡ sets line₀ at codes
  put_done rest p e = rw e at p.same

-- ---- hexadecimal

pub length_more : (bytes : List ℕ) → length (hex_more bytes) ≡ 3 * length bytes + 1
unfolding hex_more hex_byte
length_more [] = refl
length_more (b ∷ bs) = omega (arith, length_more bs)

-- the loop that puts bytes, at its head: those from k on are still to be put
pub more_turn : (line₀ : List ℕ) (at : ℕ) (codes bytes line : List ℕ) (next k : ℕ) → k < length bytes → ToPut line₀ at codes line next (hex_more (drop k bytes))
    → ToPut line₀ at codes (sets (set line next space) (next + 1) (hex_byte (get_or bytes k 0) [])) (next + 3) (hex_more (drop (k + 1) bytes))
unfolding hex_more hex_byte
more_turn line₀ at codes bytes line next k l p =
    let three : next + 3 ≡ suc next + 2 = omega arith in
    rw (three, add-one next, add-one k) (put_some line₀ at codes (set line next space) (suc next) (hex_byte (get_or bytes k 0) []) (hex_more (drop (suc k) bytes)) (put_one line₀ at codes line next space _ (rw (drop-cons bytes k 0 l) at p)))

pub more_done : (line₀ : List ℕ) (at : ℕ) (codes bytes line : List ℕ) (next k : ℕ) → length bytes ≤ k → ToPut line₀ at codes line next (hex_more (drop k bytes))
    → set line next newline ≡ sets line₀ at codes
unfolding hex_more
more_done line₀ at codes bytes line next k h p = rw (drop_of_length-le bytes h) at p.same

-- a line of no bytes
pub hex_none : (bytes : List ℕ) → length bytes < 1 → hex_line bytes ≡ newline ∷ []
unfolding hex_line
hex_none [] h = refl
hex_none (b ∷ bs) h = absurd (omega arith)

-- and of some: the first byte, and those after it
pub hex_some : (bytes : List ℕ) → 1 ≤ length bytes → hex_line bytes ≡ hex_byte (get_or bytes 0 0) [] ++ hex_more (take (length bytes - 1) (drop 1 bytes))
unfolding hex_line hex_byte
hex_some [] h = absurd (omega arith)
hex_some (b ∷ bs) h = let all : take (suc (length bs) - 1) bs ≡ bs = take_all _ bs (omega arith) in rw all

-- it takes three codes for each byte, but for the newline of none
pub length_line : (bytes : List ℕ) → length (hex_line bytes) ≤ 3 * length bytes + 1
unfolding hex_line hex_byte
length_line [] = omega arith
length_line (b ∷ bs) = omega (arith, length_more bs)
