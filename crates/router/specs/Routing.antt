-- The outcome of routing: "job, map, work, plan; returns plan bytes and the totals". The job's numbers come
-- first, then 12 and 13, then routing, then 14.
-- Specification: section 6.3.
--     RoutingOutcome    the result, and the three slices at exit
--     routed            what routing leaves of a job
--     routing_of        from the bytes and the slices at entry
--     plan_in           the plan that stands in the slice
use Rattle.std.specs.Prelude.{ℕ, cond, List, ◌++◌, length, take, drop, replicate, leb}
use Rattle.job.specs.Grid.{vertices}
use Rattle.job.specs.Job.{Job}
use Rattle.job.specs.Reading.{Read, refused, good}
use Rattle.job.specs.Slices.{zeroed}
use Rattle.rules.specs.Routings.{Totals, routing}
use Rattle.plan.specs.Layout.{plan_of}
use Rattle.plan.specs.Leaving.{replayed_map}
use Rattle.router.specs.Room.{work_need, read_with_room}
use Rattle.router.specs.declared.routing_call.RoutingResult.{RoutingResult}

pub record RoutingOutcome : Type 0 where
  pub result : RoutingResult
  pub map : List ℕ
  pub work : List ℕ
  pub plan : List ℕ

-- on a refusal every number but it and its place is 0
unfoldable pub refused_routing : (refusal place : ℕ) → RoutingResult
refused_routing n p = record { refusal = n; place = p; bytes = 0; cost = 0; added = 0; penalties = 0; joined = 0 }

-- "plan bytes and the totals"
unfoldable pub total_result : (bytes : ℕ) → Totals → RoutingResult
total_result n t = record { refusal = 0; place = 0; bytes = n; cost = t.cost; added = t.added; penalties = t.penalties; joined = t.joined }

-- the plan, and what lies past it as found; with the map that replay leaves of it. Or "14, plan bytes needed:
-- plan short": "needed parts of map and work zero; whole plan slice zero"
unfoldable pub routed : Job → (map work plan : List ℕ) → RoutingOutcome
routed j map work plan =
    let n = length (plan_of j) in
    record {
      result = cond (leb n (length plan)) (total_result n (routing j).totals) (refused_routing 14 n);
      map = cond (leb n (length plan)) (replayed_map j (good (routing j)) map) (zeroed (vertices j.grid) map);
      work = zeroed (work_need j) work;
      plan = cond (leb n (length plan)) (plan_of j ++ drop n plan) (replicate (length plan) 0);
    }

-- after 1 to 13 all slices are as found
unfoldable pub routing_read : Read Job → (map work plan : List ℕ) → RoutingOutcome
routing_read (refused n p) map work plan = record { result = refused_routing n p; map = map; work = work; plan = plan }
routing_read (good j) map work plan = routed j map work plan

unfoldable pub routing_of : (bytes map work plan : List ℕ) → RoutingOutcome
routing_of bytes map work plan = routing_read (read_with_room bytes map work) map work plan

-- the plan that stands in the slice: its first bytes
abbrev pub plan_in : RoutingOutcome → List ℕ
plan_in o = take o.result.bytes o.plan
