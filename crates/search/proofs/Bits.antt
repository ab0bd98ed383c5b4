-- Bytes with a bit for each move.
--     bit_some, bit_power           a bit is some, and a power of 2
--     last_bit                      a move that is none of the first three
--     has_told, with_told           whether a byte has it, and the byte with it set, as the code has them
--     with_set, with_kept           the byte with it set, by its test
--     none_has                      a byte without any
--     moves_set, moves_stay         one byte of many with it set: it is set afterwards, and other bits stay
use Prim.Native.Nat.{ℕ, zero, suc, ◌+◌, ◌*◌, ◌/◌, ◌%◌, ◌^◌, ◌<◌}
use mathlib.Core.Path.{◌≡◌, refl, ap, ◌∙◌}
use mathlib.Core.List.{List}
use mathlib.Core.Bool.{not}
use native.Mathlib.Omega.{arith}
use native.Mathlib.Decide.{ℕ_discrete}
use lib.ListN.{length, get_or, set}
use lib.Seq.{get_or-set_same, get_or-set_other}
use borrow.Author.Tests.{eq-eqb, ne_eqb}
use lib.Dec.{eqb}
use Rattle.std.specs.Int.Bits.{bit_and, bit_or, or_add_and}
use Rattle.std.proofs.lemmas.Nat.{or_disjoint}
use Rattle.std.proofs.lemmas.Nat.Bits.{and_pow}
use Rattle.search.specs.Bits.{bit_of, HasMove, with_move}

-- ---- a bit

pub bit_some : (m : ℕ) → 0 < bit_of m
unfolding bit_of
bit_some zero = omega arith
bit_some (suc zero) = omega arith
bit_some (suc (suc zero)) = omega arith
bit_some (suc (suc (suc m))) = omega arith

-- it is a power of 2
bit_power : (m : ℕ) → (k : ℕ) × (bit_of m ≡ 2 ^ k)
unfolding bit_of
bit_power zero = (0, refl)
bit_power (suc zero) = (1, refl)
bit_power (suc (suc zero)) = (2, refl)
bit_power (suc (suc (suc m))) = (3, refl)

-- a move that is none of the first three has the last bit
pub last_bit : (m : ℕ) → (m ≡ 0 → ⊥) → (m ≡ 1 → ⊥) → (m ≡ 2 → ⊥) → bit_of m ≡ 8
unfolding bit_of
last_bit zero not0 not1 not2 = absurd (not0 refl)
last_bit (suc zero) not0 not1 not2 = absurd (not1 refl)
last_bit (suc (suc zero)) not0 not1 not2 = absurd (not2 refl)
last_bit (suc (suc (suc m))) not0 not1 not2 = refl

module _ (byte m : ℕ) where
  -- what the byte has of it
  and_bit : bit_and byte (bit_of m) ≡ byte / bit_of m % 2 * bit_of m
  and_bit = let (k, is) = bit_power m in rw is (and_pow byte k)

  -- whether it is set
  pub has_told : not (eqb (bit_and byte (bit_of m)) 0) ≡ eqb (byte / bit_of m % 2) 1
  has_told = rw and_bit (by (byte / bit_of m % 2) (bit_of m) (omega arith) (bit_some m))
    where
      by : (r bit : ℕ) → r < 2 → 0 < bit → not (eqb (r * bit) 0) ≡ eqb r 1
      by zero bit few some = rw (eq-eqb (0 * bit) 0 (omega arith)) refl
      by (suc zero) bit few some = rw (ne_eqb (1 * bit) 0 (λ e. omega arith)) refl
      by (suc (suc r)) bit few some = absurd (omega arith)

  -- the byte with it set
  pub with_set : byte / bit_of m % 2 ≡ 0 → byte + bit_of m ≡ with_move byte m
  unfolding with_move
  with_set e = rw (eq-eqb (byte / bit_of m % 2) 0 e) refl

  pub with_kept : (byte / bit_of m % 2 ≡ 0 → ⊥) → byte ≡ with_move byte m
  unfolding with_move
  with_kept e = rw (ne_eqb (byte / bit_of m % 2) 0 e) refl

  pub with_told : bit_or byte (bit_of m) ≡ with_move byte m
  with_told = by (ℕ_discrete (byte / bit_of m % 2) 0)
    where
      by : Dec (byte / bit_of m % 2 ≡ 0) → bit_or byte (bit_of m) ≡ with_move byte m
      by (yes e) =
          let none : bit_and byte (bit_of m) ≡ 0 * bit_of m = and_bit ∙ rw e refl in
          or_disjoint byte (bit_of m) (omega (arith, none)) ∙ with_set e
      by (no e) =
          let one : byte / bit_of m % 2 ≡ 1 = omega arith in
          let all : bit_and byte (bit_of m) ≡ 1 * bit_of m = and_bit ∙ rw one refl in
          let kept : bit_or byte (bit_of m) ≡ byte = omega (arith, all, or_add_and byte (bit_of m)) in
          kept ∙ with_kept e

-- a byte without any
pub none_has : {byte : ℕ} (m : ℕ) → byte ≡ 0 → HasMove byte m → ⊥
unfolding bit_of
none_has zero none has = omega arith
none_has (suc zero) none has = omega arith
none_has (suc (suc zero)) none has = omega arith
none_has (suc (suc (suc m))) none has = omega arith

-- ---- a bit is set

added_has : (byte m : ℕ) → byte / bit_of m % 2 ≡ 0 → HasMove (byte + bit_of m) m
unfolding bit_of
added_has byte zero e = omega arith
added_has byte (suc zero) e = omega arith
added_has byte (suc (suc zero)) e = omega arith
added_has byte (suc (suc (suc m))) e = omega arith

added_stays : (byte m k : ℕ) → byte / bit_of m % 2 ≡ 0 → HasMove byte k → HasMove (byte + bit_of m) k
unfolding bit_of
added_stays byte zero zero e on = omega arith
added_stays byte zero (suc zero) e on = let same : (byte + 1) / 2 ≡ byte / 2 = omega arith in ap (λ x. x % 2) same ∙ on
added_stays byte zero (suc (suc zero)) e on = let same : (byte + 1) / 4 ≡ byte / 4 = omega arith in ap (λ x. x % 2) same ∙ on
added_stays byte zero (suc (suc (suc k))) e on = let same : (byte + 1) / 8 ≡ byte / 8 = omega arith in ap (λ x. x % 2) same ∙ on
added_stays byte (suc zero) zero e on = let same : (byte + 2) / 1 ≡ byte / 1 + 2 = omega arith in omega (arith, same)
added_stays byte (suc zero) (suc zero) e on = omega arith
added_stays byte (suc zero) (suc (suc zero)) e on = let same : (byte + 2) / 4 ≡ byte / 4 = omega arith in ap (λ x. x % 2) same ∙ on
added_stays byte (suc zero) (suc (suc (suc k))) e on = let same : (byte + 2) / 8 ≡ byte / 8 = omega arith in ap (λ x. x % 2) same ∙ on
added_stays byte (suc (suc zero)) zero e on = let same : (byte + 4) / 1 ≡ byte / 1 + 4 = omega arith in omega (arith, same)
added_stays byte (suc (suc zero)) (suc zero) e on = let same : (byte + 4) / 2 ≡ byte / 2 + 2 = omega arith in omega (arith, same)
added_stays byte (suc (suc zero)) (suc (suc zero)) e on = omega arith
added_stays byte (suc (suc zero)) (suc (suc (suc k))) e on = let same : (byte + 4) / 8 ≡ byte / 8 = omega arith in ap (λ x. x % 2) same ∙ on
added_stays byte (suc (suc (suc m))) zero e on = let same : (byte + 8) / 1 ≡ byte / 1 + 8 = omega arith in omega (arith, same)
added_stays byte (suc (suc (suc m))) (suc zero) e on = let same : (byte + 8) / 2 ≡ byte / 2 + 4 = omega arith in omega (arith, same)
added_stays byte (suc (suc (suc m))) (suc (suc zero)) e on = let same : (byte + 8) / 4 ≡ byte / 4 + 2 = omega arith in omega (arith, same)
added_stays byte (suc (suc (suc m))) (suc (suc (suc k))) e on = omega arith

-- it is set afterwards
with_has : (byte m : ℕ) → HasMove (with_move byte m) m
with_has byte m = by (ℕ_discrete (byte / bit_of m % 2) 0)
  where
    by : Dec (byte / bit_of m % 2 ≡ 0) → HasMove (with_move byte m) m
    by (yes e) = rw (← with_set byte m e) (added_has byte m e)
    by (no e) = rw (← with_kept byte m e) (omega arith)

-- other bits stay
with_stays : (byte m k : ℕ) → HasMove byte k → HasMove (with_move byte m) k
with_stays byte m k has = by (ℕ_discrete (byte / bit_of m % 2) 0)
  where
    by : Dec (byte / bit_of m % 2 ≡ 0) → HasMove (with_move byte m) k
    by (yes e) = rw (← with_set byte m e) (added_stays byte m k e has)
    by (no e) = rw (← with_kept byte m e) has

-- one byte of many
module _ (bytes : List ℕ) (u m : ℕ) (room : u < length bytes) where
  pub moves_set : HasMove (get_or (set bytes u (with_move (get_or bytes u 0) m)) u 0) m
  moves_set = rw (get_or-set_same bytes u (with_move (get_or bytes u 0) m) 0 room) (with_has (get_or bytes u 0) m)

  pub moves_stay : (w k : ℕ) → HasMove (get_or bytes w 0) k → HasMove (get_or (set bytes u (with_move (get_or bytes u 0) m)) w 0) k
  moves_stay w k has = by (ℕ_discrete w u)
    where
      by : Dec (w ≡ u) → HasMove (get_or (set bytes u (with_move (get_or bytes u 0) m)) w 0) k
      by (yes e) = rw (e, get_or-set_same bytes u (with_move (get_or bytes u 0) m) 0 room) (with_stays (get_or bytes u 0) m k (rw e at has))
      by (no e) = rw (get_or-set_other bytes u w (with_move (get_or bytes u 0) m) 0 e) has
