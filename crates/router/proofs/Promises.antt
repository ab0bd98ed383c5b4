-- What routing's outcome promises, whatever the bytes and the slices.
--     room_read            a job that has room is the one that was read
--     plan_within          the plan's bytes are in the slice
--     room_routes          with slices that are long enough, the plan stands in the slice
--     Returned             a claim about a plan that routing returned
--     routed_cheapest      every record of the plan that stands in the slice is cheapest
--     routed_by_ties       and is the join that the ties name
--     short_bounded        a bound on the bytes that 14 asks for
--     own_plan_replays     replay accepts that plan, with the same map and totals
--     routing_parts        the outcome in its parts, as the call promises them
use Prim.Native.Nat.{ℕ, ◌+◌, ◌*◌, ◌/◌, ◌≤◌}
use mathlib.Core.Path.{◌≡◌, refl, sym, ap, subst⁻¹, ◌∙◌}
use mathlib.Core.List.{List, ◌++◌}
use native.Mathlib.Nat.{mul_assoc}
use native.Mathlib.Omega.{arith}
use lib.ListN.{length, take, drop}
use lib.Seq.{take-append_seam}
use Rattle.job.specs.Grid.{vertices}
use Rattle.job.specs.Job.{Job, largest_min_length}
use Rattle.job.specs.Good.{GoodJob}
use Rattle.job.specs.Reading.{good, read_job}
use Rattle.job.proofs.Binds.{steps}
use Rattle.job.proofs.Numbered.{numbered_some}
use Rattle.job.proofs.TwoWay.{rules_hold}
use Rattle.rules.specs.Prices.{tech_of}
use Rattle.rules.specs.Joins.{places}
use Rattle.plan.specs.Layout.{plan_of}
use Rattle.plan.specs.Claim.{Cheapest, ByTies}
use Rattle.plan.specs.Sizes.{most_joins, most_bytes}
use Rattle.plan.proofs.Routed.{routing_read_lem, routing_plan_cheapest, routing_plan_by_ties}
use Rattle.plan.proofs.Sizes.{plan_fits}
use Rattle.router.specs.Room.{work_need, read_with_room}
use Rattle.router.specs.Replay.{ReplayOutcome, refused_replay, replay_result, replay_read, replay_of}
use Rattle.router.specs.Routing.{RoutingOutcome, refused_routing, total_result, routing_of, plan_in}
use Rattle.router.specs.Held.{replay_leaves, routing_leaves}
use Rattle.router.specs.declared.routing_call.RoutingResult.{RoutingResult}
use Rattle.router.proofs.Ends.{Ends, early, short, whole, routes_ends}
use Rattle.router.proofs.Numbered.{room_numbered}

-- a job that has room is the one that was read
pub room_read : (bytes map work : List ℕ) (j : Job) → read_with_room bytes map work ≡ good j → read_job bytes ≡ good j
unfolding read_with_room
room_read bytes map work j e = let (k, read, (tests, is)) = simp steps at e in rw is at read

-- the plan's bytes are in the slice
pub plan_within : (bytes map work plan : List ℕ) → (routing_of bytes map work plan).result.bytes ≤ length plan
unfolding refused_routing total_result
plan_within bytes map work plan = by (routes_ends bytes map work plan)
  where
    by : {o : RoutingOutcome} → Ends bytes map work plan o → o.result.bytes ≤ length plan
    by (early n p room is) = rw is (omega arith)
    by (short j room h is) = rw is (omega arith)
    by (whole j room h is) = rw is h

-- the plan that stands in the slice, where it fits
plan_stands : (j : Job) (plan : List ℕ) → take (length (plan_of j)) (plan_of j ++ drop (length (plan_of j)) plan) ≡ plan_of j
plan_stands j plan = take-append_seam (plan_of j) (drop (length (plan_of j)) plan)

-- routing a job with room, and a plan slice that is long enough, leaves its plan there
pub room_routes : (bytes map work plan : List ℕ) (j : Job) → read_with_room bytes map work ≡ good j → length (plan_of j) ≤ length plan
    → ((routing_of bytes map work plan).result.refusal ≡ 0) × (plan_in (routing_of bytes map work plan) ≡ plan_of j)
unfolding refused_routing total_result
room_routes bytes map work plan j has enough = by (routes_ends bytes map work plan)
  where
    by : {o : RoutingOutcome} → Ends bytes map work plan o → (o.result.refusal ≡ 0) × (plan_in o ≡ plan_of j)
    by (early n p room is) = let z : ◌≡◌ {A = ℕ} 0 1 = cc in absurd (omega arith)
    by (short k room h is) = let same : k ≡ j = cc in absurd (omega (arith, ap (λ (x : Job). length (plan_of x)) same))
    by (whole k room h is) = let same : k ≡ j = cc in rw (is, same) (refl, plan_stands j plan)

-- a claim about a plan that routing returned, as it stands in the slice: there is the job that was read
abbrev pub Returned : (Claim : Job → List ℕ → Type 0) → (bytes plan : List ℕ) → Type 0
Returned Claim bytes plan = (j : Job) × (read_job bytes ≡ good j) × Claim j plan

-- "for every job whose routing returned a plan": what holds of every good job's plan holds of it
routed-holds : (Claim : Job → List ℕ → Type 0) → ((j : Job) → GoodJob j → Claim j (plan_of j)) → (bytes map work plan : List ℕ)
    → (routing_of bytes map work plan).result.refusal ≡ 0 → Returned Claim bytes (plan_in (routing_of bytes map work plan))
unfolding refused_routing total_result
routed-holds Claim holds bytes map work plan done = by (routes_ends bytes map work plan) done
  where
    by : {o : RoutingOutcome} → Ends bytes map work plan o → o.result.refusal ≡ 0 → Returned Claim bytes (plan_in o)
    by (early n p room is) none = absurd (omega (arith, numbered_some (room_numbered bytes map work) room, rw is at none))
    by (short j room h is) none = let z : ◌≡◌ {A = ℕ} 14 0 = rw is at none in absurd (omega arith)
    by (whole j room h is) none =
        let read = room_read bytes map work j room in
        (j, read, rw (is, plan_stands j plan) (holds j (rules_hold bytes j read)))

-- it is cheapest
pub routed_cheapest : (bytes map work plan : List ℕ) → (routing_of bytes map work plan).result.refusal ≡ 0
    → Returned Cheapest bytes (plan_in (routing_of bytes map work plan))
routed_cheapest = routed-holds Cheapest (λ j rules. routing_plan_cheapest rules)

-- and holds the joins that the ties name
pub routed_by_ties : (bytes map work plan : List ℕ) → (routing_of bytes map work plan).result.refusal ≡ 0
    → Returned ByTies bytes (plan_in (routing_of bytes map work plan))
routed_by_ties = routed-holds ByTies (λ j rules. routing_plan_by_ties rules)

-- the bytes that 14 asks for are bounded by the job's pins and the work need
pub short_bounded : (bytes : List ℕ) (j : Job) → read_job bytes ≡ good j → length (plan_of j) ≤ (most_joins j.nets * (work_need j + 78) + 7) / 8
unfolding most_bytes places tech_of work_need
short_bounded bytes j read =
    let longest = largest_min_length j.lines + 1 in
    let v = vertices j.grid in
    let both : 2 * (v * 2 * longest) ≡ v * 4 * longest =
    let four : 2 * (v * 2) ≡ v * 4 = omega arith in
    sym (mul_assoc 2 (v * 2) longest) ∙ ap (λ (x : ℕ). x * longest) four in
    rw (← both) (plan_fits (rules_hold bytes j read))

-- the outcome of replay that has the same numbers, map and work
abbrev pub without_plan : RoutingOutcome → ReplayOutcome
without_plan o =
    let r = o.result in
    replay_leaves (record {
      refusal = r.refusal;
      place = r.place;
      cost = r.cost;
      added = r.added;
      penalties = r.penalties;
      joined = r.joined;
    }) o.map o.work

-- the router's own plan, as it stands in the slice, replays to the same map and totals
pub own_plan_replays : (bytes map work plan : List ℕ) → (routing_of bytes map work plan).result.refusal ≡ 0
    → replay_of bytes (plan_in (routing_of bytes map work plan)) map work ≡ without_plan (routing_of bytes map work plan)
unfolding replay_of replay_read replay_result refused_routing refused_replay total_result
own_plan_replays bytes map work plan done = by (routes_ends bytes map work plan) done
  where
    by : {o : RoutingOutcome} → Ends bytes map work plan o → o.result.refusal ≡ 0 → replay_of bytes (plan_in o) map work ≡ without_plan o
    by (early n p room is) none = rw (is, room) refl
    by (short j room h is) none = let z : ◌≡◌ {A = ℕ} 14 0 = rw is at none in absurd (omega arith)
    by (whole j room h is) none =
        rw (is, plan_stands j plan, room, routing_read_lem (rules_hold bytes j (room_read bytes map work j room))) refl

-- the outcome in its parts, with the promises about the plan
pub routing_parts : (bytes map work plan : List ℕ) {r : RoutingResult} {mapNow workNow planNow : List ℕ}
    → routing_leaves r mapNow workNow planNow ≡ routing_of bytes map work plan
    → (r ≡ (routing_of bytes map work plan).result)
    × ((mapNow ≡ (routing_of bytes map work plan).map)
    × ((workNow ≡ (routing_of bytes map work plan).work)
    × ((planNow ≡ (routing_of bytes map work plan).plan)
    × ((r.refusal ≡ 0 → Returned Cheapest bytes (take r.bytes planNow))
    × (r.refusal ≡ 0 → Returned ByTies bytes (take r.bytes planNow))))))
routing_parts bytes map work plan {r} e = (
  λ i. (e i).result,
  (
    λ i. (e i).map,
    (
      λ i. (e i).work,
      (
        λ i. (e i).plan,
        (
          λ none. subst⁻¹ (λ (o : RoutingOutcome). Returned Cheapest bytes (plan_in o)) e (routed_cheapest bytes map work plan (done none)),
          λ none. subst⁻¹ (λ (o : RoutingOutcome). Returned ByTies bytes (plan_in o)) e (routed_by_ties bytes map work plan (done none)),
        ),
      ),
    ),
  ),
)
  where
    done : r.refusal ≡ 0 → (routing_of bytes map work plan).result.refusal ≡ 0
    done none = sym (λ i. (e i).result.refusal) ∙ none
