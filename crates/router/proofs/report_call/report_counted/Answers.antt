-- `router::report_call::report_counted` meets its contract: the plan is turned back, or its counts are tried.
use mathlib.Core.Path.{refl, ap}
use Rattle.replay.proofs.Parts.{passed_same}
use Rattle.router.specs.Report.{report_result}
use Rattle.router.proofs.Reports.{zeros_fit, refused_some, counts_long, report_turned, report_taken}
use Rattle.router.proofs.report_call.report_counted.Goals as goal

pub replay_counted-replayed-requires : goal.replay_counted-replayed-requires
replay_counted-replayed-requires c = zeros_fit 48

pub returns-in_err-totals : goal.returns-in_err-totals
returns-in_err-totals c =
    let outcome = rw c.in_err-totals.was at c.replay_counted-replayed.ensures.outcome in
    rw (passed_same c.from_residual.ensures) (report_turned _ _ _ _ outcome _ (refused_some _))

pub add_counts-requires : goal.add_counts-requires
add_counts-requires c =
    let replayed = rw c.in_ok-totals.was at c.replay_counted-replayed.ensures in
    counts_long _ _ _ _ replayed.outcome _ refl replayed.counts

pub returns-in_err-add_counts : goal.returns-in_err-add_counts
unfolding report_result
returns-in_err-add_counts c =
    let replayed = rw c.in_ok-totals.was at c.replay_counted-replayed.ensures in
    let added = c.in_err-add_counts.ensures in
    rw (passed_same c.from_residual-in_err-add_counts.ensures)
    (report_taken _ _ _ _ replayed.outcome _ _ refl replayed.counts (ap (report_result _) added.answer) added.report)

pub returns : goal.returns
unfolding report_result
returns c =
    let replayed = rw c.in_ok-totals.was at c.replay_counted-replayed.ensures in
    let added = c.in_ok-add_counts.ensures in
    report_taken _ _ _ _ replayed.outcome _ _ refl replayed.counts (ap (report_result _) added.answer) added.report
