-- `replay::tail::zero_tail` meets its contract.
use mathlib.Core.Path.{ap}
use native.Mathlib.Omega.{arith}
use Rattle.bits.specs.declared.FieldRead.{FieldRead}
use Rattle.replay.proofs.Tails.{tail_long, tail_none, tail_left}
use Rattle.replay.proofs.tail.zero_tail.Goals as goal

pub returns-then-at-bytes : goal.returns-then-at-bytes
returns-then-at-bytes c = tail_long _ _ c.if-at-bytes.true

pub returns-then-end-at : goal.returns-then-end-at
returns-then-end-at c = tail_none _ _ c.if-end-at.true

pub field-tail-requires : goal.field-tail-requires
field-tail-requires c =
    record {
      fitting = record { narrow = omega (arith, c.if-at-bytes.false); below = omega (arith, c.requires, c.if-at-bytes.false) };
      inside = omega (arith, c.if-end-at.false);
    }

pub returns : goal.returns
returns c = tail_left _ _ c.if-at-bytes.false (ap (λ (t : FieldRead). t.value) c.field-tail.ensures)
