-- A job that was read, with what the code holds of it.
use Rattle.std.specs.Prelude.{ℕ, ◌≡◌, List, length}
use Rattle.job.specs.Job.{Job}
use Rattle.job.specs.Reading.{good, nets_at, read_job}
use Rattle.job.specs.Heads.{job_head}
use Rattle.job.specs.Structs.{grid_of}
use Rattle.job.specs.declared.grid.Grid.{Grid as GridStruct}

-- the bytes hold a good job with this grid and so many nets, the first of them at a bit
pub record JobHeld (bytes : List ℕ) (g : GridStruct) (count start : ℕ) : Type 0 where
  pub job : Job
  pub read : read_job bytes ≡ good job
  pub grid : job.grid ≡ grid_of g
  pub nets : length job.nets ≡ count
  pub from : nets_at (job_head job) ≡ start
