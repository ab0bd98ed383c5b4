-- The forms in which the code answers and hands a job on, each made from what Reading says.
use Rattle.std.specs.Prelude.{ℕ, ◌+◌, max, List, [], ◌∷◌}
use Rattle.job.specs.Job.{Layer, Job}
use Rattle.job.specs.Reading.{Read, good, ◌>>=◌, Head, nets_at, nets_width}
use Rattle.job.specs.Heads.{job_head}
use Rattle.job.specs.declared.groups.Head.{Head as HeadStruct}
use Rattle.job.specs.declared.groups.Layer.{Layer as LayerStruct}
use Rattle.reader.specs.declared.whole.JobRead.{JobRead}
use Rattle.job.specs.Structs.{head_struct, layer_struct, layers_of}

unfoldable pub head_read : Read Head → Read HeadStruct
head_read read = do
  h ← read
  good (head_struct h)

unfoldable pub layer_read : Read Layer → Read LayerStruct
layer_read read = do
  l ← read
  good (layer_struct l)

-- the largest M of layer lines
unfoldable pub largest_in : List LayerStruct → ℕ
largest_in [] = 0
largest_in (l ∷ ls) = max l.least (largest_in ls)

unfoldable pub layers_read : Read (List Layer) → Read (List LayerStruct)
layers_read read = do
  ls ← read
  good (layers_of ls)

-- the bit after a job's last field
unfoldable pub job_end : Job → ℕ
job_end j = nets_at (job_head j) + nets_width j.nets

unfoldable pub job_read : Read Job → Read JobRead
job_read read = do
  j ← read
  good (record { end = job_end j; head = head_struct (job_head j); layers = layers_of j.lines })
