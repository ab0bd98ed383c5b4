-- Calls of the wire report, one after the other over one report.
-- Specification: section 6.5.
--     Call, called_on     a call's slices but the report; a call over a report
--     report_after        the report after them
--     accepted_counts     the counts of the plans of those that were accepted
use Rattle.std.specs.Prelude.{ℕ, List, [], ◌∷◌, ◌++◌, cond, eqb}
use Rattle.counts.specs.Counts.{Count}
use Rattle.router.specs.Report.{ReportOutcome, planned_counts, counts_of, report_of}

pub record Call : Type 0 where
  pub bytes : List ℕ
  pub plan : List ℕ
  pub map : List ℕ
  pub work : List ℕ

abbrev pub called_on : Call → (report : List ℕ) → ReportOutcome
called_on c report = report_of c.bytes c.plan c.map c.work report

unfoldable pub report_after : List Call → (report : List ℕ) → List ℕ
report_after [] report = report
report_after (c ∷ cs) report = report_after cs (called_on c report).report

-- "the sum over the records of those accepted": of the calls that were not refused
unfoldable pub accepted_counts : List Call → (report : List ℕ) → List Count
accepted_counts [] report = []
accepted_counts (c ∷ cs) report =
    cond (eqb (called_on c report).result.refusal 0) (counts_of (planned_counts c.bytes c.plan c.map c.work)) []
    ++ accepted_counts cs (called_on c report).report
