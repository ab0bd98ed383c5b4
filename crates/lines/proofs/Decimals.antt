-- The laws of `decimal`.
--     decimal_small, decimal-more                  the two equations to read it by: one digit below ten, and
--                                                  one digit after those of the tenth
--     decimal_each                                 what holds of one digit, and of a number where it holds of
--                                                  its tenth, holds of all numbers
--     value_decimal                                the digits, read back, write the number
--     decimal_text                                 they are what is printed
--     decimal_first                                the first digit is no zero, but of zero itself
--     length_tenth, length-decimal, length_word    how many digits there are: one more than in the tenth, one
--                                                  at least, twenty at most for a word
--     length_refused                               how long a refusal's line is
use Prim.Native.Nat.{ℕ, zero, suc, ◌+◌, ◌-◌, ◌*◌, ◌/◌, ◌%◌, ◌^◌, ◌≤◌, ◌<◌}
use mathlib.Core.Path.{◌≡◌, refl, sym, ◌∙◌}
use mathlib.Core.List.{List, [], ◌∷◌, ◌++◌}
use native.Mathlib.Nat.{le_refl, pow-suc}
use native.Mathlib.Decide.{dec_lt}
use native.Mathlib.Omega.{arith}
use lib.ListN.{length, get_or, length-append, get_or-append}
use borrow.Author.Tests.{lt-ltb, le-ltb}
use Rattle.std.specs.Fmt.{decimal as printed}
use Rattle.std.proofs.lemmas.Fmt.{decimal_digit, decimal_step}
use Rattle.lines.specs.Lines.{decimal, decimal_by, refused_line}
use Rattle.lines.specs.Values.{value_from}

-- below ten, any fuel gives the one digit
enough_small : (f n : ℕ) → n < 10 → decimal_by f n ≡ (48 + n) ∷ []
unfolding decimal_by
enough_small zero n h = refl
enough_small (suc f) n h = rw (lt-ltb n 10 h)

-- fuel is enough where it is the number or more
enough : (f g n : ℕ) → n ≤ f → n ≤ g → decimal_by f n ≡ decimal_by g n
unfolding decimal_by
enough zero g n hf hg = enough_small zero n (omega arith) ∙ sym (enough_small g n (omega arith))
enough (suc f) g n hf hg = by g hg (dec_lt n 10) (λ k l. enough f k (n / 10) (omega arith) l)
  where
    by : (g : ℕ) → n ≤ g → Dec (n < 10) → ((k : ℕ) → n / 10 ≤ k → decimal_by f (n / 10) ≡ decimal_by k (n / 10)) → decimal_by (suc f) n ≡ decimal_by g n
    by g hg (yes h) rest = enough_small (suc f) n h ∙ sym (enough_small g n h)
    by zero hg (no h) rest = absurd (h (omega arith))
    by (suc g) hg (no h) rest = rw (le-ltb n 10 (omega arith), rest g (omega arith))

-- a number below ten is one digit
pub decimal_small : (n : ℕ) → n < 10 → decimal n ≡ (48 + n) ∷ []
unfolding decimal decimal_by
decimal_small zero h = refl
decimal_small (suc n) h = rw (lt-ltb (suc n) 10 h)

-- another is its tenth's digits, and its last
pub decimal-more : (n : ℕ) → 10 ≤ n → decimal n ≡ decimal (n / 10) ++ ((48 + n % 10) ∷ [])
unfolding decimal decimal_by
decimal-more zero h = absurd (omega arith)
decimal-more (suc n) h = rw (le-ltb (suc n) 10 h, enough n (suc n / 10) (suc n / 10) (omega arith) (omega arith))

-- induction by the two equations
pub decimal_each : (P : ℕ → Type 0) → ((n : ℕ) → n < 10 → P n) → ((n : ℕ) → 10 ≤ n → P (n / 10) → P n) → (n : ℕ) → P n
decimal_each P one more n = by n n (le_refl n)
  where
    pick : (n : ℕ) → Dec (n < 10) → (10 ≤ n → P (n / 10)) → P n
    pick n (yes h) tenth = one n h
    pick n (no h) tenth = more n (omega arith) (tenth (omega arith))

    by : (fuel n : ℕ) → n ≤ fuel → P n
    by zero n l = one n (omega arith)
    by (suc fuel) n l = pick n (dec_lt n 10) (λ h. by fuel (n / 10) (omega arith))

-- reading goes on where it left off
value_from-append : (v : ℕ) (xs ys : List ℕ) → value_from v (xs ++ ys) ≡ value_from (value_from v xs) ys
unfolding value_from
value_from-append v [] ys = refl
value_from-append v (x ∷ xs) ys = value_from-append (v * 10 + (x - 48)) xs ys

pub value_decimal : (n : ℕ) → value_from 0 (decimal n) ≡ n
unfolding value_from
value_decimal =
    decimal_each (λ n. value_from 0 (decimal n) ≡ n) (λ n h. rw (decimal_small n h) (omega arith)) (λ n h ih.
    rw (decimal-more n h, value_from-append 0 (decimal (n / 10)) ((48 + n % 10) ∷ []), ih) (omega arith))

-- what `itoa` prints, of a number that fits a word
pub decimal_text : (n : ℕ) → n < 2 ^ 64 → printed n ≡ decimal n
decimal_text =
    decimal_each (λ n. n < 2 ^ 64 → printed n ≡ decimal n) (λ n h l. rw (decimal_small n h) (decimal_digit n h)) (λ n h ih l.
    rw (decimal_step n h l, decimal-more n h, ih (omega arith)))

-- there is one digit more than in its tenth
pub length_tenth : (n : ℕ) → 10 ≤ n → length (decimal n) ≡ length (decimal (n / 10)) + 1
length_tenth n h = rw (decimal-more n h, length-append)

-- there is a digit
pub length-decimal : (n : ℕ) → 1 ≤ length (decimal n)
length-decimal =
    decimal_each (λ n. 1 ≤ length (decimal n)) (λ n h. rw (decimal_small n h) (le_refl 1)) (λ n h ih.
    omega (arith, length_tenth n h))

pub decimal_first : (n : ℕ) → 0 < n → 48 < get_or (decimal n) 0 0
decimal_first =
    decimal_each (λ n. 0 < n → 48 < get_or (decimal n) 0 0) (λ n h p. rw (decimal_small n h) (omega arith)) (λ n h ih p.
    rw (decimal-more n h, get_or-append (decimal (n / 10)) ((48 + n % 10) ∷ []) 0 0 (omega (arith, length-decimal (n / 10)))) (ih (omega arith)))

-- k + 1 digits are enough below 10 ^ (k + 1)
decimal-within : (k n : ℕ) → n < 10 ^ suc k → length (decimal n) ≤ suc k
decimal-within zero n h = rw (decimal_small n h) (le_refl 1)
decimal-within (suc k) n h = by (dec_lt n 10) (decimal-within k (n / 10))
  where
    by : Dec (n < 10) → (n / 10 < 10 ^ suc k → length (decimal (n / 10)) ≤ suc k) → length (decimal n) ≤ suc (suc k)
    by (yes s) rest = rw (decimal_small n s) (omega arith)
    by (no s) rest =
        let tenth : n / 10 < 10 ^ suc k = omega (arith, rw pow-suc at h) in
        omega (arith, length_tenth n (omega arith), rest tenth)

pub length_word : (n : ℕ) → n < 2 ^ 64 → length (decimal n) ≤ 20
length_word n h = decimal-within 19 n (omega arith)

-- and so a refusal's line has 53 codes at most
pub length_refused : (n p : ℕ) → n < 2 ^ 64 → p < 2 ^ 64 → length (refused_line n p) ≤ 53
unfolding refused_line
length_refused n p h l = simp length-append (omega (arith, length_word n h, length_word p l))
