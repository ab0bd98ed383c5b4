-- The ways out of testing a plan's tail.
--     tail_long, tail_none, tail_left     eight bits or more are left; none; fewer
--     few-bytes                           a slice whose bits are few has few bytes
use Prim.Native.Nat.{ℕ, ◌+◌, ◌-◌, ◌*◌, ◌/◌, ◌≤◌, ◌<◌}
use mathlib.Core.Path.{◌≡◌, refl}
use mathlib.Core.List.{List}
use mathlib.Core.Bool.{Bool, true, false, ◌&&◌}
use native.Mathlib.Omega.{arith}
use lib.ListN.{length, drop, length-drop, drop_of_length-le}
use lib.Seq.{take_all}
use lib.Dec.{ltb, eqb}
use borrow.Author.Tests.{lt-ltb, le-ltb}
use Rattle.bits.specs.Bits.{bits_of, field, number}
use Rattle.bits.proofs.Laws.{length-bits_of}

-- the test
abbrev pub TailTest : (bytes : List ℕ) (at : ℕ) → Bool
TailTest bytes at = ltb (length (bits_of bytes) - at) 8 && eqb (number (drop at (bits_of bytes))) 0

-- eight bits or more are left
pub tail_long : (bytes : List ℕ) (at : ℕ) → (at + 7) / 8 < length bytes → false ≡ TailTest bytes at
tail_long bytes at h = rw (le-ltb (length (bits_of bytes) - at) 8 (omega (arith, h, length-bits_of bytes))) refl

-- none is left
pub tail_none : (bytes : List ℕ) (at : ℕ) → length bytes * 8 ≤ at → true ≡ TailTest bytes at
unfolding number
tail_none bytes at h =
    rw (lt-ltb (length (bits_of bytes) - at) 8 (omega (arith, h, length-bits_of bytes)), drop_of_length-le (bits_of bytes) {i = at} (omega (arith, h, length-bits_of bytes))) refl

-- fewer than eight are left: the number in the field of all of them decides
pub tail_left : (bytes : List ℕ) (at : ℕ) {value : ℕ} → length bytes ≤ (at + 7) / 8 → value ≡ field (bits_of bytes) at (length bytes * 8 - at)
    → eqb value 0 ≡ TailTest bytes at
unfolding field
tail_left bytes at h is =
    rw (
      is,
      lt-ltb (length (bits_of bytes) - at) 8 (omega (arith, h, length-bits_of bytes)),
      take_all (length bytes * 8 - at) (drop at (bits_of bytes)) (omega (arith, length-drop at (bits_of bytes), length-bits_of bytes)),
    ) refl
