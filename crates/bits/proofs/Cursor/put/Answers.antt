-- `bits::Cursor::put` meets its contract.
use Prim.Native.Nat.{◌/◌}
use mathlib.Core.Path.{◌≡◌, refl, ◌∙◌}
use native.Mathlib.Omega.{arith}
use Rattle.bits.specs.Bits.{field_bits}
use Rattle.bits.specs.Puts.{put_bits}
use Rattle.bits.proofs.Turn.{before, InByte, put_turn, put_last}
use Rattle.bits.proofs.Cursor.put.Goals as goal

pub loop-index-init : goal.loop-index-init
unfolding put_bits field_bits
loop-index-init c = let a = c.args in let none : before a.self.at a.width (a.self.at / 8) ≡ 0 = omega arith in rw none

pub loop-index-preserved : goal.loop-index-preserved
loop-index-preserved c =
    let part : InByte _ _ _ _ _ = record { from_is = c.max-from.ensures; to_is = c.min-to.ensures; first = c.loop-index.auto.index; last = c.loop-index-test.true } in
    rw (c.put_part.ensures, c.loop-index.invariant) (put_turn _ _ part)

pub returns : goal.returns
returns c =
    let a = c.args in
    (refl, c.loop-index.invariant ∙ put_last a.buf.now a.self.at a.width a.value c.loop-index.index c.loop-index-test.false)
