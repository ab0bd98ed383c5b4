-- Routing's outcome, by the ways in which it ends.
--     Ends                                           the ways
--     routes_refused, routes_short, routes_whole     the outcome in each
--     routes_ends                                    there are no others
use Prim.Native.Nat.{ℕ, ◌≤◌, ◌<◌}
use mathlib.Core.Path.{◌≡◌, refl, sym}
use mathlib.Core.List.{List, ◌++◌}
use native.Mathlib.Decide.{dec_lt}
use native.Mathlib.Omega.{arith}
use lib.ListN.{length, drop, replicate}
use borrow.Author.Tests.{le-leb, lt-leb}
use Rattle.job.specs.Grid.{vertices}
use Rattle.job.specs.Job.{Job}
use Rattle.job.specs.Reading.{Read, refused, good}
use Rattle.rules.specs.Routings.{routing}
use Rattle.plan.specs.Layout.{plan_of}
use Rattle.job.specs.Slices.{zeroed}
use Rattle.plan.specs.Leaving.{replayed_map}
use Rattle.router.specs.Room.{work_need, read_with_room}
use Rattle.router.specs.Routing.{RoutingOutcome, refused_routing, total_result, routed, routing_read, routing_of}
use Rattle.router.specs.Held.{routing_leaves}

module _ (bytes map work plan : List ℕ) where
  -- 14 leaves zeros
  abbrev left_short : Job → RoutingOutcome
  left_short j =
      routing_leaves (refused_routing 14 (length (plan_of j))) (zeroed (vertices j.grid) map) (zeroed (work_need j) work) (replicate (length plan) 0)

  -- a plan that fits is left with its map and totals
  abbrev left_whole : Job → RoutingOutcome
  left_whole j =
      routing_leaves (total_result (length (plan_of j)) (routing j).totals) (replayed_map j (good (routing j)) map) (zeroed (work_need j) work)
      (plan_of j ++ drop (length (plan_of j)) plan)

  -- the ways in which routing ends: a refusal from 1 to 13 leaves all as found; 14; or the plan fits
  pub data Ends (o : RoutingOutcome) : Type 0 where
    early : (n p : ℕ) → read_with_room bytes map work ≡ refused n p → o ≡ routing_leaves (refused_routing n p) map work plan → Ends o
    short : (j : Job) → read_with_room bytes map work ≡ good j → length plan < length (plan_of j) → o ≡ left_short j → Ends o
    whole : (j : Job) → read_with_room bytes map work ≡ good j → length (plan_of j) ≤ length plan → o ≡ left_whole j → Ends o

  -- a refusal from 1 to 13
  pub routes_refused : {n p : ℕ} → read_with_room bytes map work ≡ refused n p
      → routing_leaves (refused_routing n p) map work plan ≡ routing_of bytes map work plan
  unfolding routing_of routing_read
  routes_refused e = rw e refl

  -- 14
  pub routes_short : (j : Job) → read_with_room bytes map work ≡ good j → length plan < length (plan_of j) → routing_of bytes map work plan ≡ left_short j
  unfolding routing_of routing_read routed
  routes_short j room h = rw (room, lt-leb (length (plan_of j)) (length plan) h) refl

  -- the plan fits
  pub routes_whole : (j : Job) → read_with_room bytes map work ≡ good j → length (plan_of j) ≤ length plan → routing_of bytes map work plan ≡ left_whole j
  unfolding routing_of routing_read routed
  routes_whole j room h = rw (room, le-leb (length (plan_of j)) (length plan) h) refl

  -- routing ends in one of them
  pub routes_ends : Ends (routing_of bytes map work plan)
  routes_ends = by (read_with_room bytes map work) refl
    where
      by : (x : Read Job) → read_with_room bytes map work ≡ x → Ends (routing_of bytes map work plan)
      by (refused n p) e = early n p e (sym (routes_refused e))
      by (good j) e = fits (dec_lt (length plan) (length (plan_of j)))
        where
          fits : Dec (length plan < length (plan_of j)) → Ends (routing_of bytes map work plan)
          fits (yes h) = short j e h (routes_short j e h)
          fits (no h) = whole j e (omega arith) (routes_whole j e (omega arith))
