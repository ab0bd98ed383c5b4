-- `counts::report::add_all` meets its contract.
use Rattle.counts.proofs.Reporting.{AddedTo}
use Rattle.counts.proofs.report.add_all.Given as goal

abbrev pub invariant-loop-i : goal.invariant-loop-i
invariant-loop-i l = AddedTo l.initial.report l.counts l.report l.i
