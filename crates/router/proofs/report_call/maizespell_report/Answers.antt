-- `router::report_call::maizespell_report` meets its contract.
use Rattle.router.proofs.Adds.{report_parts}
use Rattle.router.proofs.report_call.maizespell_report.Goals as goal

pub returns : goal.returns
returns c =
    let all = report_parts _ _ _ _ _ c.report_counted.ensures in
    rw c.from.ensures (record { result = all.0; map = all.1.0; work = all.1.1.0; report = all.1.1.1.0; pays = all.1.1.1.1 })
