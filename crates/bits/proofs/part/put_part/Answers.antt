-- `bits::part::put_part` meets its contract: the one store puts all the bits (`put_in_byte_lem`); past the last
-- byte (`put_out`), and of no bits, nothing is put. Assumes nothing.
use mathlib.Core.Path.{sym}
use native.Mathlib.Omega.{arith}
use Rattle.bits.specs.Bits.{field_bits}
use Rattle.bits.specs.Puts.{put_bits}
use Rattle.bits.proofs.Turn.{put_in_byte_lem, put_out}
use Rattle.bits.proofs.part.put_part.Goals as goal

pub returns-then-count-eq0 : goal.returns-then-count-eq0
unfolding put_bits field_bits
returns-then-count-eq0 c = rw c.if-count-eq0.true

pub returns-then-index-buf : goal.returns-then-index-buf
returns-then-index-buf c =
    let a = c.args in
    rw c.in_byte.ensures (sym (put_in_byte_lem a.buf.now a.at a.count a.value (omega arith) (omega (arith, c.if-count-eq0.false)) c.requires))

pub returns-else-index-buf : goal.returns-else-index-buf
returns-else-index-buf c =
    let a = c.args in
    sym (put_out a.buf.now a.at (field_bits a.count a.value) c.if-index-buf.false)
