-- `counts::report::add_counts` meets its contract: the report is short, a count is too large, or all are
-- added.
use Rattle.counts.proofs.Reporting.{none_fits, room_short, room_over, room_whole}
use Rattle.counts.proofs.report.add_counts.Goals as goal

pub returns-then-report-lt-COUNTS : goal.returns-then-report-lt-COUNTS
returns-then-report-lt-COUNTS c =
    let (answer, report) = room_short _ _ c.if-report-lt-COUNTS.true c.at.ensures in
    record { answer = answer; report = report }

pub returns-in-Some : goal.returns-in-Some
returns-in-Some c =
    let told = rw c.in-Some.is at c.first_over.ensures in
    let (answer, report) = room_over _ _ c.if-report-lt-COUNTS.false _ told c.at-in-Some.ensures in
    record { answer = answer; report = report }

pub add_all-requires : goal.add_all-requires
add_all-requires c =
    let told = rw c.in_default.is at c.first_over.ensures in
    (c.if-report-lt-COUNTS.false, c.requires, none_fits _ _ c.if-report-lt-COUNTS.false told)

pub returns : goal.returns
returns c =
    let told = rw c.in_default.is at c.first_over.ensures in
    let (answer, report) = room_whole _ _ c.if-report-lt-COUNTS.false told c.add_all.ensures in
    record { answer = answer; report = report }
