-- The outcome of replay: "job, plan, map, work; same map and totals, no test for cheapest". The job's numbers
-- come first, then 12 and 13, then the plan's.
-- Specification: section 6.4.
--     ReplayOutcome    the result, and both slices at exit
--     replay_of        from the bytes and the slices at entry
--     Accepts          what it accepts
use Rattle.std.specs.Prelude.{ℕ, ◌≤◌, ◌≡◌, List, length}
use Rattle.job.specs.Grid.{vertices}
use Rattle.job.specs.Job.{Job}
use Rattle.job.specs.Reading.{Read, refused, good, read_job}
use Rattle.job.specs.Slices.{zeroed}
use Rattle.rules.specs.Routings.{Routed}
use Rattle.plan.specs.Reading.{read_plan}
use Rattle.plan.specs.Leaving.{replayed_map}
use Rattle.plan.specs.Legal.{LegalPlan}
use Rattle.router.specs.Room.{work_need, read_with_room}
use Rattle.router.specs.declared.replay_call.ReplayResult.{ReplayResult}

pub record ReplayOutcome : Type 0 where
  pub result : ReplayResult
  pub map : List ℕ
  pub work : List ℕ

-- on a refusal every number but it and its place is 0
unfoldable pub refused_replay : (refusal place : ℕ) → ReplayResult
refused_replay n p = record { refusal = n; place = p; cost = 0; added = 0; penalties = 0; joined = 0 }

unfoldable pub replay_result : Read Routed → ReplayResult
replay_result (refused n p) = refused_replay n p
replay_result (good r) =
    let t = r.totals in
    record { refusal = 0; place = 0; cost = t.cost; added = t.added; penalties = t.penalties; joined = t.joined }

-- after 1 to 13 both slices are as found. Else the plan's answer; "After success the needed part of work is
-- zero", and after a refusal of the plan too
unfoldable pub replay_read : Read Job → (plan map work : List ℕ) → ReplayOutcome
replay_read (refused n p) plan map work = record { result = refused_replay n p; map = map; work = work }
replay_read (good j) plan map work =
    let read = read_plan j plan in
    record { result = replay_result read; map = replayed_map j read map; work = zeroed (work_need j) work }

unfoldable pub replay_of : (bytes plan map work : List ℕ) → ReplayOutcome
replay_of bytes plan map work = replay_read (read_with_room bytes map work) plan map work

-- the job is good, the slices have room, and the plan is a legal one of it
pub record Accepts (bytes plan map work : List ℕ) : Type 0 where
  pub job : Job
  pub read : read_job bytes ≡ good job
  pub map_room : vertices job.grid ≤ length map
  pub work_room : work_need job ≤ length work
  pub legal : LegalPlan job plan
