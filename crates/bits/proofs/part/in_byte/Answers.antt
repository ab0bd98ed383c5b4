-- `bits::part::in_byte` meets its contract: the first bits of the byte and the number's lowest bits, one
-- after the other and moved to their position, lose nothing and are a byte (`in_byte`, `byte_with_byte`).
-- Assumes nothing.
use Prim.Native.Nat.{◌+◌}
use native.Mathlib.Nat.{lt_of_lt_of_le}
use native.Mathlib.Omega.{arith}
use lib.Pow.{pow_mono}
use Rattle.bits.proofs.Turn.{one_shl_pos, bits_joined, joined_below, in_byte, byte_with_byte}
use Rattle.bits.proofs.part.in_byte.Goals as goal

pub nonzero_rem-part : goal.nonzero_rem-part
nonzero_rem-part c = one_shl_pos c.args.count (omega arith)

pub overflow_add-result : goal.overflow_add-result
overflow_add-result c =
    let a = c.args in
    record {
      fits =
          rw (c.from.ensures, bits_joined a.byte a.skip a.count a.value (omega arith) c.requires)
          (lt_of_lt_of_le (joined_below a.byte a.skip a.count a.value (omega arith) c.requires) (pow_mono {i = a.skip + a.count} {j = 64} (omega arith)));
    }

pub overflow_cast-result : goal.overflow_cast-result
overflow_cast-result c =
    let a = c.args in
    record {
      fits =
          rw (c.from.ensures, in_byte a.byte a.skip a.count a.value (omega arith) c.requires)
          (byte_with_byte a.byte a.skip a.count a.value (omega arith) c.requires);
    }

pub returns : goal.returns
returns c = let a = c.args in rw c.from.ensures (in_byte a.byte a.skip a.count a.value (omega arith) c.requires)
