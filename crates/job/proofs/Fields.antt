-- Reading a group field by field: while bits of the group are left, the next field is whole, and its number
-- is below a power of two.
--     is_whole, is_cut           what the test for a whole group says
--     first_arm, second_arm      what a choice says of its test
--     Left                       bits that are there from a position on
--     all_left                   those of a group that is whole
--     past                       those past a field
--     room                       the next field is whole in the bytes
--     value_below                the number in a field
use Prim.Native.Nat.{ℕ, ◌+◌, ◌-◌, ◌*◌, ◌^◌, min, ◌≤◌, ◌<◌}
use mathlib.Core.Path.{◌≡◌, refl, ap, sym, ◌∙◌}
use mathlib.Core.List.{List}
use mathlib.Core.Bool.{Bool, true, false, cond}
use native.Mathlib.Nat.{min-le_left, min-le_right}
use native.Mathlib.Omega.{arith}
use borrow.Author.Tests.{leb-true}
use lib.Dec.{T, leb, leb→le}
use lib.ListN.{length}
use Rattle.bits.specs.Bits.{bits_of, whole}
use Rattle.bits.specs.Cursors.{Room, field_read}
use Rattle.bits.specs.declared.FieldRead.{FieldRead}
use Rattle.bits.proofs.Laws.{length-bits_of, bits_of_bits, field_below}

-- w bits are tested
module _ (w : ℕ) (bits : List ℕ) (at : ℕ) {answer : Bool} (e : answer ≡ whole bits at w) where
  -- a group whose test did not fail is whole
  pub is_whole : answer ≡ true → whole bits at w ≡ true
  is_whole h = sym e ∙ h

  -- a group whose test failed is cut
  pub is_cut : answer ≡ false → whole bits at w ≡ false
  is_cut h = sym e ∙ h

-- what is chosen and is not the second is the first, and the test is true
pub first_arm : {A : Type 0} (test : Bool) (x y z : A) → cond test x y ≡ z → (y ≡ z → ⊥) → (test ≡ true) × (x ≡ z)
first_arm true x y z e other = (refl, e)
first_arm false x y z e other = absurd (other e)

-- where what is chosen is not the first, the test is false
pub second_arm : {A : Type 0} (test : Bool) (x y z : A) → cond test x y ≡ z → (x ≡ z → ⊥) → test ≡ false
second_arm true x y z e other = absurd (other e)
second_arm false x y z e other = refl

-- n bits from a position on, in the bytes and in a word's reach
pub record Left (bytes : List ℕ) (at n : ℕ) : Type 0 where
  pub inside : at + n ≤ 8 * length bytes
  pub below : at + n < 2 ^ 63

-- all bits of a group that is whole
pub all_left : {bytes : List ℕ} {at : ℕ} (n : ℕ) → whole (bits_of bytes) at n ≡ true → at + n < 2 ^ 63 → Left bytes at n
unfolding whole
all_left {bytes} {at} n e below = record { inside = omega (arith, leb-true (at + n) _ e, length-bits_of bytes); below = below }

-- what is left past a field
pub past : {bytes : List ℕ} {at n : ℕ} {t : FieldRead} (w : ℕ)
    → T (leb w n) → t ≡ field_read bytes at w → Left bytes at n → Left bytes t.next.at (n - w)
past {n = n} w h e l =
    let narrow : w ≤ n = leb→le w n h in
    let next = ap (λ (t : FieldRead). t.next.at) e in
    record { inside = omega arith; below = omega arith }

-- the next field, if it is not wider than what is left, nor than a word
pub room : {bytes : List ℕ} {at w n : ℕ} → T (leb w (min n 64)) → Left bytes at n → Room bytes at w
room {w = w} {n = n} h l =
    let narrow : w ≤ min n 64 = leb→le w (min n 64) h in
    record {
      fitting = record { narrow = omega (arith, min-le_right n 64); below = omega (arith, min-le_left n 64) };
      inside = omega (arith, min-le_left n 64);
    }

-- the number in a field of w bits is below 2 ^ w
pub value_below : (bytes : List ℕ) (at w : ℕ) {t : FieldRead} → t ≡ field_read bytes at w → t.value < 2 ^ w
value_below bytes at w e = rw e (field_below (bits_of bytes) at w (bits_of_bits bytes))
