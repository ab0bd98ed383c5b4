-- `maizespell::line::line_of` meets its contract: too many bytes, a refused job, or a good one.
use Rattle.reader.proofs.Outcome.{read_at, read_refused, zeros_bare}
use Rattle.lines.proofs.Putting.{written_within}
use Rattle.maizespell.proofs.Cases.{line_long, line_refused, line_good}
use Rattle.maizespell.proofs.line.line_of.Goals as goal

pub returns-then-bytes-gt65536 : goal.returns-then-bytes-gt65536
returns-then-bytes-gt65536 c =
    let bytes = c.args.bytes.now in
    let put = c.put_too_large.ensures in
    record {
      line = rw (line_long bytes c.if-bytes-gt65536.true) put;
      counts = written_within _ _ _ _ put;
    }

pub read_job-requires : goal.read_job-requires
read_job-requires c = zeros_bare

pub vertices-requires : goal.vertices-requires
vertices-requires c = (read_at _ c.in-Ok.ensures.read).small

pub returns-in-Err : goal.returns-in-Err
returns-in-Err c =
    let bytes = c.args.bytes.now in
    let put = rw c.number.ensures at c.put_refused_line.ensures in
    let e = read_refused _ c.in-Err.ensures.read in
    record {
      line = rw (line_refused bytes _ _ c.if-bytes-gt65536.false e) put;
      counts = written_within _ _ _ _ put;
    }

pub returns-in-Ok : goal.returns-in-Ok
returns-in-Ok c =
    let bytes = c.args.bytes.now in
    let put = c.good_line.ensures in
    let read = read_at _ c.in-Ok.ensures.read in
    record {
      line = rw (line_good bytes _ _ _ c.if-bytes-gt65536.false read c.vertices.ensures c.largest_least.ensures) put;
      counts = written_within _ _ _ _ put;
    }
