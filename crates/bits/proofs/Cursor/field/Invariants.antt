-- `bits::Cursor::field` meets its contract. The invariant: what is read so far is the field of the bits that
-- stand before the byte, the others are left, and in the byte those before the cursor are skipped. Assumes
-- nothing.
use Prim.Native.Nat.{◌-◌, ◌*◌, ◌%◌, max}
use Rattle.std.proofs.Common.{◌≡◌}
use Rattle.bits.specs.Bits.{bits_of, field}
use Rattle.bits.proofs.Turn.{before}
use Rattle.bits.proofs.Cursor.field.Given as goal

abbrev pub invariant-loop-index : goal.invariant-loop-index
invariant-loop-index l =
    (l.value ≡ field (bits_of l.s) l.fn.self.at (before l.fn.self.at l.fn.width l.index))
    × (l.left ≡ l.fn.width - before l.fn.self.at l.fn.width l.index)
    × (l.skip ≡ max l.fn.self.at (8 * l.index) % 8)
