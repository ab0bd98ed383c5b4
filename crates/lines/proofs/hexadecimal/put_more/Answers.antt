-- `lines::hexadecimal::put_more` meets its contract.
use mathlib.Core.Path.{refl}
use native.Mathlib.Omega.{arith}
use lib.ListN.{length-set}
use Rattle.lines.proofs.Turn.{more_turn, more_done, length_more}
use Rattle.lines.proofs.hexadecimal.put_more.Goals as goal

pub loop-byte-init : goal.loop-byte-init
loop-byte-init c = (omega arith, record { same = refl; kept = refl })

pub put_byte-requires : goal.put_byte-requires
put_byte-requires c = simp length-set (omega (arith, c.loop-byte.invariant.1.kept))

pub loop-byte-preserved : goal.loop-byte-preserved
loop-byte-preserved c =
    let l = c.loop-byte in
    (omega arith, rw c.put_byte.ensures (more_turn _ _ _ _ l.line l.next l.byte-index c.loop-byte-test.true l.invariant.1))

pub returns : goal.returns
returns c =
    let l = c.loop-byte in
    record {
      contents = more_done _ _ _ _ l.line l.next l.byte-index c.loop-byte-test.false l.invariant.1;
      next_is = rw length_more (omega arith);
    }
