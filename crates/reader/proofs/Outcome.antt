-- What a caller of `read_job` knows of its answer.
--     ReadGood, read_at     the bytes hold a good job, and these are its head and its layer lines
--     read_refused          the bytes are refused
--     zeros_bare            occupants of zeros are bare
--     least_below           no M is above 15
use Prim.Native.Nat.{ℕ, ◌≤◌}
use mathlib.Core.Path.{◌≡◌, refl}
use mathlib.Core.List.{List, [], ◌∷◌}
use native.Mathlib.Omega.{arith}
use lib.ListN.{replicate}
use Rattle.job.specs.Job.{Layer, Job, largest_min_length}
use Rattle.job.specs.Reading.{refused, good, read_job}
use Rattle.job.specs.Heads.{job_head}
use Rattle.job.specs.Good.{GoodLines, GoodJob}
use Rattle.job.specs.Structs.{Small, head_struct}
use Rattle.job.specs.Structs.{layers_of}
use Rattle.reader.specs.Structs.{largest_in, job_end, job_read}
use Rattle.occupants.specs.Occupants.{Bare}
use Rattle.reader.specs.declared.whole.JobRead.{JobRead}
use Rattle.job.proofs.Binds.{made_refused, made_good}
use Rattle.job.proofs.TwoWay.{rules_hold}
use Rattle.reader.proofs.Lines.{largest_lines}

-- the bytes hold a good job, and the answer has its head and its layer lines
pub record ReadGood (bytes : List ℕ) (x : JobRead) : Type 0 where
  pub job : Job
  pub read : read_job bytes ≡ good job
  pub rules : GoodJob job
  pub head : x.head ≡ head_struct (job_head job)
  pub layers : x.layers ≡ layers_of job.lines
  pub small : Small x.head.grid
  pub largest : largest_in x.layers ≡ largest_min_length job.lines

-- what is handed on of a good job
abbrev handed : Job → JobRead
handed j = record { end = job_end j; head = head_struct (job_head j); layers = layers_of j.lines }

-- the answer for a good job
good_answer : (bytes : List ℕ) (j : Job) → read_job bytes ≡ good j → ReadGood bytes (handed j)
good_answer bytes j e =
    let rules = rules_hold bytes j e in
    let grid = rules.grid in
    record {
      job = j;
      read = e;
      rules = rules;
      head = refl;
      layers = refl;
      small = record { direction = omega (arith, grid.direction); layers = grid.layers; columns = grid.columns; rows = grid.rows };
      largest = largest_lines j.lines;
    }

module _ (bytes : List ℕ) where
  -- the bytes hold a good job
  pub read_at : {x : JobRead} → good x ≡ job_read (read_job bytes) → ReadGood bytes x
  unfolding job_read
  read_at e = let read = made_good handed _ e in rw read.2 (good_answer bytes read.0 read.1)

  -- the bytes are refused
  pub read_refused : {n p : ℕ} → refused n p ≡ job_read (read_job bytes) → read_job bytes ≡ refused n p
  unfolding job_read
  read_refused e = made_refused handed _ e

-- occupants of zeros are bare
pub zeros_bare : Bare (replicate 16384 0)
unfolding Bare
zeros_bare = refl

-- no M is above 15
pub least_below : (ls : List Layer) → GoodLines ls → largest_min_length ls ≤ 15
unfolding GoodLines largest_min_length
least_below [] h = omega arith
least_below (l ∷ ls) h = omega (arith, least_below ls h.1, h.0.min_length)
