-- `reader::whole::read_job` meets its contract: the bytes are too many, the head is refused, or what follows
-- it decides.
use mathlib.Core.Path.{refl}
use Rattle.job.proofs.Refusals.{passed_on}
use Rattle.reader.proofs.AfterHead.{told_refused_job}
use Rattle.reader.proofs.Heads.{job_too_long, job_head_refused, job_past_head}
use Rattle.reader.proofs.whole.read_job.Goals as goal

pub returns-then-s-gt-MOST_BYTES : goal.returns-then-s-gt-MOST_BYTES
returns-then-s-gt-MOST_BYTES c =
    rw c.at.ensures (told_refused_job (job_too_long _ c.if-s-gt-MOST_BYTES.true) refl)

pub returns-in_err-head : goal.returns-in_err-head
returns-in_err-head c =
    told_refused_job (job_head_refused _ c.if-s-gt-MOST_BYTES.false c.in_err-head.ensures) (passed_on _ _ c.from_residual.ensures)

pub read_after_head-requires : goal.read_after_head-requires
read_after_head-requires c =
    let fits = c.if-s-gt-MOST_BYTES.false in
    let h = job_past_head _ fits c.in_ok-head.ensures in
    record { s_len_bound = (fits, h.sized, h.nets, h.obstacles); bare = c.requires }

pub returns : goal.returns
returns c =
    let h = job_past_head _ c.if-s-gt-MOST_BYTES.false c.in_ok-head.ensures in
    record {
      read = rw h.same c.read_after_head.ensures.read;
      occupants = rw h.same c.read_after_head.ensures.occupants;
    }
