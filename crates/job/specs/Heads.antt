-- A job by its head.
--     job_head      the head of a job
--     read_bits     bits read, the head first
use Rattle.std.specs.Prelude.{ℕ, List, length}
use Rattle.job.specs.Job.{Job}
use Rattle.job.specs.Reading.{Read, ◌>>=◌, Head, read_head, read_after_head}

-- the head of a job
abbrev pub job_head : Job → Head
job_head j =
    record {
      grid = j.grid;
      guide = j.guide;
      short = j.short;
      nets = length j.nets;
      obstacles = length j.obstacles;
    }

-- the bits of a job, the head first
unfoldable pub read_bits : (bits : List ℕ) → Read Job
read_bits bits = do
  head ← read_head bits
  read_after_head bits head
