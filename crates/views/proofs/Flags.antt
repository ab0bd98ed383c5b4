-- The flags of a byte.
--     flag_below, byte_flags     a flag, and the three flags' sum
--     byte_holds                 the flags read back
--     byte_opened                the byte of one of the net's own pins, or not
use Prim.Native.Nat.{ℕ, ◌+◌, ◌-◌, ◌%◌, ◌≤◌}
use mathlib.Core.Path.{◌≡◌, refl}
use mathlib.Core.Bool.{Bool, true, false, ◌&&◌, not, cond}
use native.Mathlib.Omega.{arith}
use Rattle.rules.specs.Seen.{holds}
use Rattle.views.specs.Sight.{taken_code, seen_byte, own_byte}

-- what stands for a flag is no more than it
pub flag_below : {byte : ℕ} (b : Bool) (flag : ℕ) → byte ≡ cond b flag 0 → byte ≤ flag
flag_below true flag e = omega arith
flag_below false flag e = omega arith

-- the three flags' sum
pub byte_flags : (b t o : Bool) {first second third : ℕ} → first ≡ cond b 1 0 → second ≡ cond t 2 0 → third ≡ cond o 4 0
    → first + second + third ≡ seen_byte b t o
unfolding seen_byte
byte_flags b t o e f g = rw (e, f, g) refl

-- the flags read back
pub byte_holds : (b t o : Bool) → (holds 1 (seen_byte b t o) ≡ b) × (holds 2 (seen_byte b t o) ≡ t) × (holds 4 (seen_byte b t o) ≡ o)
unfolding holds seen_byte
byte_holds true true true = (refl, refl, refl)
byte_holds true true false = (refl, refl, refl)
byte_holds true false true = (refl, refl, refl)
byte_holds true false false = (refl, refl, refl)
byte_holds false true true = (refl, refl, refl)
byte_holds false true false = (refl, refl, refl)
byte_holds false false true = (refl, refl, refl)
byte_holds false false false = (refl, refl, refl)

-- made anew at the net's own pins, and left elsewhere
pub byte_opened : (n code : ℕ) (own b t o : Bool)
    → cond own (own_byte n code (seen_byte b t o)) (seen_byte b t o) ≡ seen_byte (not own && b) (cond own (taken_code n code) t) o
unfolding seen_byte own_byte
byte_opened n code false b t o = refl
byte_opened n code true b t o = by (taken_code n code) b t o
  where
    by : (taken b t o : Bool) → cond b 1 0 + cond t 2 0 + cond o 4 0 - (cond b 1 0 + cond t 2 0 + cond o 4 0) % 4 + cond taken 2 0
        ≡ cond false 1 0 + cond taken 2 0 + cond o 4 0
    by true true true true = refl
    by true true true false = refl
    by true true false true = refl
    by true true false false = refl
    by true false true true = refl
    by true false true false = refl
    by true false false true = refl
    by true false false false = refl
    by false true true true = refl
    by false true true false = refl
    by false true false true = refl
    by false true false false = refl
    by false false true true = refl
    by false false true false = refl
    by false false false true = refl
    by false false false false = refl
