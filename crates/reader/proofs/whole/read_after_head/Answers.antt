-- `reader::whole::read_after_head` meets its contract: a layer line is refused, something after the lines is,
-- or the job is good.
use Rattle.job.proofs.Refusals.{passed_on}
use Rattle.occupants.proofs.Covering.{bare_occupants}
use Rattle.reader.proofs.AfterHead.{told_refused_job, lines_refused_job, rest_refused_job, rest_good_job}
use Rattle.reader.proofs.whole.read_after_head.Goals as goal

pub returns-in_err-layers : goal.returns-in_err-layers
returns-in_err-layers c =
    told_refused_job (lines_refused_job _ _ c.in_err-layers.ensures) (passed_on _ _ c.from_residual.ensures)

pub returns-in_err-end : goal.returns-in_err-end
returns-in_err-end c =
    let p = c.requires in
    let rest = rest_refused_job _ _ c.in_ok-layers.ensures _ p.s_len_bound.1.vertices (bare_occupants _ p.bare) c.in_err-end.ensures.answer in
    told_refused_job rest (passed_on _ _ c.from_residual-in_err-end.ensures)

pub returns : goal.returns
returns c =
    let p = c.requires in
    let read = c.in_ok-end.ensures in
    rw read.occupants (rest_good_job _ _ c.in_ok-layers.ensures _ p.s_len_bound.1.vertices (bare_occupants _ p.bare) read.answer)
