-- The outcome of the wire report: replay, and where it accepts, the plan's counts added to a report.
-- Specification: section 6.5.
--     ReportOutcome             the result, and the three slices at exit
--     counts_read               the counts that a call adds, or its refusal
--     report_of                 from the bytes and the slices at entry
--     CountsPay, CountsPayIn    counts times prices make the cost, of every plan that is accepted
use Rattle.std.specs.Prelude.{ℕ, ◌≡◌, List, [], replicate}
use Rattle.job.specs.Job.{Job}
use Rattle.job.specs.Reading.{Read, refused, good, ◌>>=◌, ◌>>◌, read_job}
use Rattle.rules.specs.Prices.{tech_of}
use Rattle.plan.specs.Reading.{read_plan}
use Rattle.counts.specs.Counts.{report_need, Count, counted, plan_counts, report_prices, worth}
use Rattle.counts.specs.Reports.{room_in}
use Rattle.router.specs.Room.{read_with_room}
use Rattle.router.specs.Replay.{refused_replay, replay_of}
use Rattle.router.specs.declared.replay_call.ReplayResult.{ReplayResult}

pub record ReportOutcome : Type 0 where
  pub result : ReplayResult
  pub map : List ℕ
  pub work : List ℕ
  pub report : List ℕ

-- the counts of a plan, after a job with room
unfoldable pub planned_counts : (bytes plan map work : List ℕ) → Read (List Count)
planned_counts bytes plan map work = do
  j ← read_with_room bytes map work
  r ← read_plan j plan
  good (plan_counts j r.entries)

-- "Number 19 comes after replay's numbers"
unfoldable pub counts_read : (bytes plan map work report : List ℕ) → Read (List Count)
counts_read bytes plan map work report = do
  counts ← planned_counts bytes plan map work
  room_in report (counted counts report)
  good counts

-- on a refusal every number but it and its place is 0
unfoldable pub report_result : {A : Type 0} → ReplayResult → Read A → ReplayResult
report_result replayed (refused n p) = refused_replay n p
report_result replayed (good a) = replayed

-- nothing is added on a refusal
unfoldable pub counts_of : Read (List Count) → List Count
counts_of (refused n p) = []
counts_of (good counts) = counts

-- "the report is left as it was before that plan, map and work as after replay. Otherwise the call returns
-- and leaves what replay does."
unfoldable pub report_of : (bytes plan map work report : List ℕ) → ReportOutcome
report_of bytes plan map work report =
    let replayed = replay_of bytes plan map work in
    let counts = counts_read bytes plan map work report in
    record { result = report_result replayed.result counts; map = replayed.map; work = replayed.work; report = counted (counts_of counts) report }

-- a plan's counts times the job's prices make a cost
pub record CountsPay (bytes plan map work : List ℕ) (cost : ℕ) : Type 0 where
  pub job : Job
  pub read : read_job bytes ≡ good job
  pub pays : worth (report_prices (tech_of job)) (counted (counts_of (planned_counts bytes plan map work)) (replicate report_need 0)) ≡ cost

-- "For each plan, counts times that job's prices must make exactly its total cost."
abbrev pub CountsPayIn : (bytes plan map work : List ℕ) → ReplayResult → Type 0
CountsPayIn bytes plan map work r = r.refusal ≡ 0 → CountsPay bytes plan map work r.cost
