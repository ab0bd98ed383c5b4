-- `bits::Cursor::put` meets its contract. The invariant: the bits that stand before the byte are put. Assumes
-- nothing.
use Rattle.std.proofs.Common.{◌≡◌}
use Rattle.bits.proofs.Turn.{before, put_first}
use Rattle.bits.proofs.Cursor.put.Given as goal

abbrev pub invariant-loop-index : goal.invariant-loop-index
invariant-loop-index l = l.buf ≡ put_first l.initial.buf l.self.at l.width l.value (before l.self.at l.width l.index)
