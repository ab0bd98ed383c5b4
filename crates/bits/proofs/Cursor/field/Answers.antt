-- `bits::Cursor::field` meets its contract.
use Prim.Native.Nat.{◌/◌}
use mathlib.Core.Path.{◌≡◌, refl}
use native.Mathlib.Omega.{arith}
use Rattle.bits.specs.Bits.{bits_of, field, number}
use Rattle.bits.proofs.Laws.{field_below, field_bits_bits}
use Rattle.bits.proofs.Turn.{before, InByte, in_turn, read_room, read_turn}
use Rattle.bits.proofs.Cursor.field.Goals as goal

pub loop-index-init : goal.loop-index-init
unfolding field number
loop-index-init c =
    let a = c.args in
    let none : before a.self.at a.width (a.self.at / 8) ≡ 0 = omega arith in
    (rw none, omega arith, omega arith)

pub joined-value-requires : goal.joined-value-requires
joined-value-requires c =
    let (value, left, skip) = c.loop-index.invariant in
    let part : InByte c.args.self.at c.args.width _ _ _ = record { from_is = refl; to_is = refl; first = c.loop-index.auto.index; last = c.loop-index-test.true } in
    let count = in_turn left skip c.min-count.ensures part in (
      omega (arith, c.min-count.ensures),
      rw (← count) at (read_room _ part value c.requires.fitting.narrow),
      rw c.part_of.ensures (field_below _ _ _ (field_bits_bits 8 _)),
    )

pub loop-index-preserved : goal.loop-index-preserved
loop-index-preserved c =
    let (value, left, skip) = c.loop-index.invariant in
    let part : InByte c.args.self.at c.args.width _ _ _ = record { from_is = refl; to_is = refl; first = c.loop-index.auto.index; last = c.loop-index-test.true } in
    let count = in_turn left skip c.min-count.ensures part in (
      rw (c.joined-value.ensures, c.part_of.ensures) (rw (← count, ← skip) at (read_turn _ part value c.requires.inside)),
      omega (arith, left, count, part.first, part.last),
      omega (arith, part.first),
    )

pub returns : goal.returns
returns c =
    let a = c.args in
    let all : before a.self.at a.width c.loop-index.index ≡ a.width = omega (arith, c.loop-index-test.false) in
    let value : c.loop-index.value ≡ field (bits_of a.s.now) a.self.at a.width = rw all at c.loop-index.invariant.0 in
    rw value
