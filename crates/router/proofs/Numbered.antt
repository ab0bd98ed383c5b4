-- The numbers that the calls answer: 0, or a refusal of the specification's table, and so never 7, which is
-- retired.
--     room_numbered                                   of a refusal from 1 to 13
--     counts_numbered                                 of a refusal of the wire report
--     sizing_numbers, routing_numbers, replay_numbers, report_numbers     of each call
use Prim.Native.Nat.{ℕ}
use mathlib.Core.Path.{◌≡◌, refl}
use mathlib.Core.List.{List}
use lib.Dec.{T}
use Rattle.job.specs.Job.{Job}
use Rattle.job.specs.Reading.{Read, refused, good, read_job}
use Rattle.job.proofs.Numbered.{in_use, Numbered, rule_numbered, then_numbered, bind_numbered, good_numbered, numbered_used, job_numbered}
use Rattle.rules.specs.Routings.{Routed}
use Rattle.plan.specs.Reading.{read_plan}
use Rattle.plan.proofs.Numbered.{plan_numbered}
use Rattle.counts.specs.Counts.{Count}
use Rattle.counts.specs.Reports.{room_in}
use Rattle.counts.proofs.Reporting.{room_number}
use Rattle.router.specs.Room.{room_for, read_with_room}
use Rattle.router.specs.Sizing.{sized, sizing_of}
use Rattle.router.specs.Replay.{refused_replay, replay_result, replay_read, replay_of}
use Rattle.router.specs.Report.{planned_counts, counts_read, report_result, report_of}
use Rattle.router.specs.Routing.{RoutingOutcome, refused_routing, total_result, routing_of}
use Rattle.router.proofs.Ends.{Ends, early, short, whole, routes_ends}

-- a refusal from 1 to 13
pub room_numbered : (bytes map work : List ℕ) → Numbered (read_with_room bytes map work)
unfolding read_with_room room_for
room_numbered bytes map work =
    bind_numbered _ _ (job_numbered bytes) (λ j.
    then_numbered _ _ (then_numbered _ _ (rule_numbered 12 _ _ tt) (rule_numbered 13 _ _ tt)) (good_numbered j))

-- sizing
pub sizing_numbers : (bytes : List ℕ) → T (in_use (sizing_of bytes).refusal)
unfolding sizing_of sized
sizing_numbers bytes = by (read_job bytes) (job_numbered bytes)
  where
    by : (x : Read Job) → Numbered x → T (in_use (sized x).refusal)
    by (refused n p) h = numbered_used h refl
    by (good j) h = tt

-- routing
pub routing_numbers : (bytes map work plan : List ℕ) → T (in_use (routing_of bytes map work plan).result.refusal)
unfolding refused_routing total_result
routing_numbers bytes map work plan = by (routes_ends bytes map work plan)
  where
    by : {o : RoutingOutcome} → Ends bytes map work plan o → T (in_use o.result.refusal)
    by (early n p room is) = rw is (numbered_used (room_numbered bytes map work) room)
    by (short j room h is) = rw is tt
    by (whole j room h is) = rw is tt

-- replay
pub replay_numbers : (bytes plan map work : List ℕ) → T (in_use (replay_of bytes plan map work).result.refusal)
unfolding replay_of replay_read replay_result refused_replay
replay_numbers bytes plan map work = by (read_with_room bytes map work) (room_numbered bytes map work)
  where
    told : (x : Read Routed) → Numbered x → T (in_use (replay_result x).refusal)
    told (refused n p) h = numbered_used h refl
    told (good r) h = tt

    by : (x : Read Job) → Numbered x → T (in_use (replay_read x plan map work).result.refusal)
    by (refused n p) h = numbered_used h refl
    by (good j) h = told (read_plan j plan) (plan_numbered j plan)

-- room for counts
counted_numbered : (report more : List ℕ) → Numbered (room_in report more)
unfolding Numbered
counted_numbered report more = by (room_in report more) refl
  where
    by : (x : Read Unit) → room_in report more ≡ x → Numbered x
    by (refused n p) e = rw (room_number report more e) tt
    by (good u) e = tt

-- a refusal of the wire report
pub counts_numbered : (bytes plan map work report : List ℕ) → Numbered (counts_read bytes plan map work report)
unfolding counts_read planned_counts
counts_numbered bytes plan map work report =
    bind_numbered _ _ (bind_numbered _ _ (room_numbered bytes map work) (λ j. bind_numbered _ _ (plan_numbered j plan) (λ r. good_numbered _)))
    (λ counts. then_numbered _ _ (counted_numbered report _) (good_numbered counts))

-- the wire report
pub report_numbers : (bytes plan map work report : List ℕ) → T (in_use (report_of bytes plan map work report).result.refusal)
unfolding report_of report_result refused_replay
report_numbers bytes plan map work report = by (counts_read bytes plan map work report) (counts_numbered bytes plan map work report)
  where
    by : (x : Read (List Count)) → Numbered x → T (in_use (report_result (replay_of bytes plan map work).result x).refusal)
    by (refused n p) h = numbered_used h refl
    by (good counts) h = replay_numbers bytes plan map work
