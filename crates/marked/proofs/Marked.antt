-- The marked routes and the edges: every row of the table is right, and every edge is read as it says.
--     marked     the theorem
use mathlib.Core.List.{List, [], ◌∷◌}
use Rattle.job.specs.Lists.{All}
use Rattle.job.proofs.TwoWay.{rules_hold}
use Rattle.rules.proofs.Techs.{good_tech}
use Rattle.marked.specs.Table.{Row, Right, rows, Marked}
use Rattle.marked.proofs.Agreeing.{written_routing}
use Rattle.marked.proofs.Evaluated.{IsRead, IsWritten, job_of_bytes, records_of_job}

-- a row that was read and written is right
row_right : (row : Row) → IsRead row → IsWritten row → Right row
row_right row read (costs, e) =
    record {
      read = read;
      routed = written_routing row.job costs row.records (good_tech (rules_hold row.bytes row.job read)) e;
    }

-- so are all of a list
rows_right : (rs : List Row) → All IsRead rs → All IsWritten rs → All Right rs
unfolding All
rows_right [] read written = tt
rows_right (row ∷ rs) read written = (row_right row read.0 written.0, rows_right rs read.1 written.1)

-- the thirteen: each job is read from its bytes, and routing it writes the records of its row;
-- and each edge is read as it says
pub marked : Marked
marked = record { routes = rows_right rows job_of_bytes.0 records_of_job; edges = job_of_bytes.1 }
