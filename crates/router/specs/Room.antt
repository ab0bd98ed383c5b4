-- A job and the slices that are lent for it: "12 and 13 come after the job".
-- Specification: section 6.1.
--     work_need         the work need
--     room_for          whether the slices are long enough for the needs
--     read_with_room    bytes with slices
use Rattle.std.specs.Prelude.{ℕ, ◌+◌, ◌*◌, List, length, leb}
use Rattle.job.specs.Grid.{vertices}
use Rattle.job.specs.Job.{Job, largest_min_length}
use Rattle.job.specs.Reading.{Read, good, ◌>>=◌, ◌>>◌, rule, read_job}

-- "the work need, vertices × 4 × (largest M + 1) 64-bit numbers"
unfoldable pub work_need : Job → ℕ
work_need j = vertices j.grid * 4 * (largest_min_length j.lines + 1)

-- "12, need: map short", "13, need: work short"
unfoldable pub room_for : (vertices need : ℕ) → (map work : List ℕ) → Read Unit
room_for v n map work = do
  rule 12 v (leb v (length map))
  rule 13 n (leb n (length work))

-- a refusal from 1 to 13, or the job
unfoldable pub read_with_room : (bytes map work : List ℕ) → Read Job
read_with_room bytes map work = do
  j ← read_job bytes
  room_for (vertices j.grid) (work_need j) map work
  good j
