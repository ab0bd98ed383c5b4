-- `router::held::hold_job` meets its contract: the job is refused, or it is held.
use Rattle.reader.proofs.Outcome.{read_at, read_refused}
use Rattle.replay.proofs.Parts.{passed_same}
use Rattle.router.proofs.Holding.{head_holds, job_held}
use Rattle.router.proofs.held.hold_job.Goals as goal

pub held_of-requires : goal.held_of-requires
held_of-requires c = head_holds (read_at _ c.in_ok-read.ensures.read)

pub returns-in_err-read : goal.returns-in_err-read
returns-in_err-read c = rw (passed_same c.from_residual.ensures) (read_refused _ c.in_err-read.ensures.read)

pub returns : goal.returns
returns c =
    let read = c.in_ok-read.ensures in
    job_held (read_at _ read.read) read.occupants c.held_of.ensures
