-- The forms in which the code answers, each made from what Reading says.
use Rattle.std.specs.Prelude.{ℕ}
use Rattle.job.specs.Job.{Obstacle}
use Rattle.job.specs.Reading.{Read, good, ◌>>=◌, ◌>>◌}
use Rattle.job.specs.declared.groups.Obstacle.{Obstacle as ObstacleStruct}
use Rattle.job.specs.Structs.{obstacle_struct}

unfoldable pub obstacle_read : Read Obstacle → Read ObstacleStruct
obstacle_read read = do
  o ← read
  good (obstacle_struct o)

-- the end of what was read, where none of it is refused
unfoldable pub many_reached : {A : Type 0} → (end : ℕ) → Read A → Read ℕ
many_reached end read = do
  read
  good end
