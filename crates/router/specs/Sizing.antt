-- The outcome of sizing: "the C++ host calls sizing with the job's bytes and gets the vertices and the work
-- need, or a refusal from 1 to 11."
-- Specification: section 6.2.
use Rattle.std.specs.Prelude.{ℕ, List}
use Rattle.job.specs.Grid.{vertices}
use Rattle.job.specs.Job.{Job}
use Rattle.job.specs.Reading.{Read, refused, good, read_job}
use Rattle.router.specs.Room.{work_need}
use Rattle.router.specs.declared.sizing.SizingResult.{SizingResult}

-- on a refusal the last two numbers are 0, on success the first two
unfoldable pub sized : Read Job → SizingResult
sized (refused n p) = record { refusal = n; place = p; vertices = 0; work = 0 }
sized (good j) = record { refusal = 0; place = 0; vertices = vertices j.grid; work = work_need j }

unfoldable pub sizing_of : (bytes : List ℕ) → SizingResult
sizing_of bytes = sized (read_job bytes)
