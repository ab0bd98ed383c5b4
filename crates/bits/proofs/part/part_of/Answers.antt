-- `bits::part::part_of` meets its contract: a field in one byte is a shift and a remainder (`field_byte`).
-- Assumes nothing.
use native.Mathlib.Omega.{arith}
use Rattle.bits.proofs.Turn.{one_shl, one_shl_pos, field_byte}
use Rattle.bits.proofs.part.part_of.Goals as goal

pub nonzero_rem-result : goal.nonzero_rem-result
nonzero_rem-result c = one_shl_pos c.args.count (omega arith)

pub returns : goal.returns
returns c = let a = c.args in rw (c.from.ensures, one_shl a.count (omega arith), field_byte a.byte a.skip a.count c.requires)
