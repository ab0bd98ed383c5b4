-- The wire report's answer from what replay answered.
--     zeros_fit                      counts of zeros
--     Turned, Taken, replay_ends     replay turns a plan back, or takes it and has its counts
--     counts_none                    no counts are asked where the job has no room
--     placed, counts_long            those of a plan that was taken have their places; they are 48
--     refused_some                   a refusal's number is not 0
--     report_turned, report_taken    the outcome of both
use Prim.Native.Nat.{ℕ, zero, suc, ◌≤◌}
use mathlib.Core.Path.{◌≡◌, refl, sym, ap, ◌∙◌}
use mathlib.Core.List.{List}
use native.Mathlib.Omega.{arith}
use lib.ListN.{length, replicate, length-replicate, get_or}
use Rattle.job.specs.Job.{Job}
use Rattle.std.proofs.Common.{Err}
use Rattle.job.specs.Refusals.{number_of}
use Rattle.job.specs.declared.refusal.Refusal.{Refusal}
use Rattle.job.specs.declared.refusal.Refused.{Refused}
use Rattle.job.specs.Reading.{Read, refused, good, ◌>>=◌, ◌>>◌}
use Rattle.job.proofs.Numbered.{numbered_some}
use Rattle.job.proofs.TwoWay.{rules_hold}
use Rattle.rules.specs.Routings.{Routed}
use Rattle.plan.specs.Reading.{read_plan}
use Rattle.plan.proofs.Numbered.{plan_numbered}
use Rattle.counts.specs.Counts.{Count, report_need, counted, plan_counts}
use Rattle.counts.specs.Reports.{room_in}
use Rattle.counts.specs.Structs.{CountsFit, plus, left_of}
use Rattle.counts.proofs.Adding.{Placed, counted-length, plus-counted}
use Rattle.counts.proofs.Reporting.{room_counted, room_long}
use Rattle.counts.proofs.PlanWorth.{plan_placed}
use Rattle.replay.specs.Structs.{CountedPlan}
use Rattle.router.specs.Room.{read_with_room}
use Rattle.router.specs.Replay.{refused_replay, replay_result, replay_read, replay_of}
use Rattle.router.specs.Report.{planned_counts, counts_read, report_result, counts_of, report_of}
use Rattle.router.specs.Held.{CountsHeld, replay_answer, replay_leaves, report_leaves}
use Rattle.router.specs.declared.replay_call.ReplayResult.{ReplayResult}
use Rattle.router.proofs.Numbered.{room_numbered}
use Rattle.router.proofs.Promises.{room_read}

-- counts of zeros
pub zeros_fit : (n : ℕ) → CountsFit 0 (replicate n 0)
zeros_fit n = record { each = λ i. rw (none n i) (omega arith) }
  where
    none : (n i : ℕ) → ◌≡◌ {A = ℕ} (get_or (replicate n 0) i 0) 0
    none zero i = refl
    none (suc n) zero = refl
    none (suc n) (suc i) = none n i

-- no counts are asked where the job has no room
pub counts_none : (bytes plan map work before after : List ℕ) {n p : ℕ} → read_with_room bytes map work ≡ refused n p
    → CountsHeld bytes plan map work before after
counts_none bytes plan map work before after e j room = let z : ◌≡◌ {A = ℕ} 0 1 = cc in absurd (omega arith)

-- a refusal's number is not 0
number_some : (n : Refusal) → 1 ≤ number_of n
number_some Refusal.TooManyBytes = omega arith
number_some Refusal.Cut = omega arith
number_some Refusal.Edition = omega arith
number_some Refusal.TooManyVertices = omega arith
number_some Refusal.Layer = omega arith
number_some Refusal.Obstacle = omega arith
number_some Refusal.Pin = omega arith
number_some Refusal.EarlierPin = omega arith
number_some Refusal.Box = omega arith
number_some Refusal.Tail = omega arith
number_some Refusal.ShortMap = omega arith
number_some Refusal.ShortWork = omega arith
number_some Refusal.ShortPlan = omega arith
number_some Refusal.PlanCut = omega arith
number_some Refusal.Start = omega arith
number_some Refusal.Move = omega arith
number_some Refusal.Cost = omega arith
number_some Refusal.Report = omega arith

pub refused_some : (r : Refused) → (replay_answer (Err r)).refusal ≡ 0 → ⊥
unfolding refused_replay
refused_some r none = omega (arith, number_some r.refusal, none)

-- ---- how replay ends

module _ (bytes plan map work : List ℕ) where
  -- it turns the job or the plan back
  pub record Turned (n p : ℕ) : Type 0 where
    pub counts : planned_counts bytes plan map work ≡ refused n p
    pub result : (replay_of bytes plan map work).result ≡ refused_replay n p
    pub some : n ≡ 0 → ⊥

  -- it takes the plan
  pub record Taken (j : Job) (r : Routed) : Type 0 where
    pub room : read_with_room bytes map work ≡ good j
    pub reads : read_plan j plan ≡ good r
    pub counts : planned_counts bytes plan map work ≡ good (plan_counts j r.entries)
    pub result : (replay_of bytes plan map work).result ≡ replay_result (good r)

  -- one of both
  pub data ReplayEnds : Type 0 where
    turned : {n p : ℕ} → Turned n p → ReplayEnds
    taken : {j : Job} {r : Routed} → Taken j r → ReplayEnds

  pub replay_ends : ReplayEnds
  unfolding planned_counts replay_of replay_read replay_result ◌>>=◌
  replay_ends = by (read_with_room bytes map work) refl
    where
      by_plan : (j : Job) → read_with_room bytes map work ≡ good j → (x : Read Routed) → read_plan j plan ≡ x → ReplayEnds
      by_plan j room (refused n p) e =
          turned {n = n} {p = p} (record { counts = rw (room, e) refl; result = rw (room, e) refl; some = λ z. omega (arith, z, numbered_some (plan_numbered j plan) e) })
      by_plan j room (good r) e = taken {j = j} {r = r} (record { room = room; reads = e; counts = rw (room, e) refl; result = rw (room, e) refl })

      by : (x : Read Job) → read_with_room bytes map work ≡ x → ReplayEnds
      by (refused n p) e =
          turned {n = n} {p = p} (record { counts = rw e refl; result = rw e refl; some = λ z. omega (arith, z, numbered_some (room_numbered bytes map work) e) })
      by (good j) e = by_plan j e (read_plan j plan) refl

  -- the counts of a plan that was taken have their places
  pub placed : {j : Job} {r : Routed} → Taken j r → Placed (plan_counts j r.entries)
  placed {j} {r} t = plan_placed (rules_hold bytes j (room_read bytes map work j t.room)) plan r t.reads

  -- and are those that the code has
  held : {j : Job} {r : Routed} (before after : List ℕ) → Taken j r → CountsHeld bytes plan map work before after
      → after ≡ counted (plan_counts j r.entries) before
  unfolding CountedPlan
  held {j} before after t counts = rw t.reads at (counts j t.room)

  -- what is known where the code has replay's outcome and the counts
  module _ {r : ReplayResult} {mapNow workNow : List ℕ} (leaves : replay_leaves r mapNow workNow ≡ replay_of bytes plan map work) where
    -- the result is replay's
    result_is : r ≡ (replay_of bytes plan map work).result
    result_is = λ i. (leaves i).result

    -- there are 48 counts of a plan that was taken
    pub counts_long : (after : List ℕ) → r.refusal ≡ 0 → CountsHeld bytes plan map work (replicate report_need 0) after → length after ≡ report_need
    unfolding refused_replay
    counts_long after none counts = by replay_ends
      where
        by : ReplayEnds → length after ≡ report_need
        by (turned t) = absurd (t.some (sym (ap (λ (x : ReplayResult). x.refusal) (result_is ∙ t.result)) ∙ none))
        by (taken t) =
            ap length (held (replicate report_need 0) after t counts) ∙ counted-length _ (replicate report_need 0) ∙ length-replicate {A = ℕ} report_need 0

    -- a plan that is turned back adds nothing
    pub report_turned : (report : List ℕ) → (r.refusal ≡ 0 → ⊥) → report_leaves r mapNow workNow report ≡ report_of bytes plan map work report
    unfolding report_of counts_read report_result counts_of counted replay_result ◌>>=◌
    report_turned report some = by replay_ends
      where
        by : ReplayEnds → report_leaves r mapNow workNow report ≡ report_of bytes plan map work report
        by (turned t) =
            rw t.counts (λ i. record { result = (result_is ∙ t.result) i; map = (leaves i).map; work = (leaves i).work; report = report })
        by (taken t) = absurd (some (ap (λ (x : ReplayResult). x.refusal) (result_is ∙ t.result)))

    -- one that is taken adds its counts, if there is room
    pub report_taken : (report counts : List ℕ) {answer : ReplayResult} {after : List ℕ} → r.refusal ≡ 0
        → CountsHeld bytes plan map work (replicate report_need 0) counts
        → answer ≡ report_result r (room_in report (plus report counts)) → after ≡ left_of report (plus report counts) (room_in report (plus report counts))
        → report_leaves answer mapNow workNow after ≡ report_of bytes plan map work report
    unfolding report_of counts_read report_result counts_of counted left_of refused_replay ◌>>=◌ ◌>>◌
    report_taken report counts {answer} {after} none has answers leaves-report = by replay_ends
      where
        by_room : (cs : List Count) → planned_counts bytes plan map work ≡ good cs → Placed cs → counts ≡ counted cs (replicate report_need 0)
            → (x : Read Unit) → room_in report (counted cs report) ≡ x
            → report_leaves answer mapNow workNow after ≡ report_of bytes plan map work report
        by_room cs planned places is (refused n p) e =
            let room : room_in report (plus report counts) ≡ refused n p = rw is (room_counted cs report places) ∙ e in
            rw (planned, e) (λ i. record {
              result = (answers ∙ ap (report_result r) room) i;
              map = (leaves i).map;
              work = (leaves i).work;
              report = (leaves-report ∙ ap (left_of report (plus report counts)) room) i;
            })
        by_room cs planned places is (good u) e =
            let room : room_in report (plus report counts) ≡ good u = rw is (room_counted cs report places) ∙ e in
            let more : plus report counts ≡ counted cs report = rw is (sym (plus-counted cs report places (room_long report (counted cs report) e))) in
            rw (planned, e) (λ i. record {
              result = (answers ∙ ap (report_result r) room ∙ result_is) i;
              map = (leaves i).map;
              work = (leaves i).work;
              report = (leaves-report ∙ ap (left_of report (plus report counts)) room ∙ more) i;
            })

        by : ReplayEnds → report_leaves answer mapNow workNow after ≡ report_of bytes plan map work report
        by (turned t) = absurd (t.some (sym (ap (λ (x : ReplayResult). x.refusal) (result_is ∙ t.result)) ∙ none))
        by (taken t) = by_room _ t.counts (placed t) (held (replicate report_need 0) counts t has) _ refl
