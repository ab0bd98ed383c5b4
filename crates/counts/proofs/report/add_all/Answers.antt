-- `counts::report::add_all` meets its contract.
use native.Mathlib.Omega.{arith}
use Rattle.counts.proofs.Reporting.{added_turn, added_done}
use Rattle.counts.proofs.report.add_all.Goals as goal

pub overflow_add-report : goal.overflow_add-report
overflow_add-report c =
    let i = c.loop-i.i in
    omega (arith, c.loop-i.invariant.left i (omega arith), c.requires.2 i c.loop-i-test.true)

pub loop-i-preserved : goal.loop-i-preserved
loop-i-preserved c =
    added_turn _ _ _ _ c.loop-i.invariant (omega (arith, c.requires.0, c.loop-i-test.true))

pub returns : goal.returns
returns c = added_done _ _ _ _ c.loop-i.invariant (omega (arith, c.requires.1, c.loop-i-test.false))
