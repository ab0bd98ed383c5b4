-- The bits of the plan that routing makes of a job; with zero fill they are its bytes, `plan_of`.
use Rattle.std.specs.Prelude.{ℕ, List}
use Rattle.job.specs.Job.{Job}
use Rattle.rules.specs.Routings.{routing}
use Rattle.plan.specs.Entries.{entry_bits}

unfoldable pub plan_bits : Job → List ℕ
plan_bits j = entry_bits j.grid (routing j).entries
