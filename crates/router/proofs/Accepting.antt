-- What replay accepts.
--     replay_accepts     its refusal is 0 exactly where the job is good, the slices have room and the plan is
--                        legal
use Prim.Native.Nat.{ℕ}
use mathlib.Core.Path.{◌≡◌, refl}
use mathlib.Core.Logic.{◌↔◌}
use mathlib.Core.List.{List}
use native.Mathlib.Omega.{arith}
use Rattle.bits.specs.Puts.{AllBelow}
use Rattle.job.specs.Job.{Job}
use Rattle.job.specs.Reading.{Read, refused, good}
use Rattle.job.proofs.Numbered.{numbered_some}
use Rattle.job.proofs.TwoWay.{rules_hold}
use Rattle.rules.specs.Routings.{Routed}
use Rattle.plan.specs.Reading.{read_plan}
use Rattle.plan.specs.Legal.{LegalPlan}
use Rattle.plan.proofs.TwoWay.{plan_two_way}
use Rattle.plan.proofs.Numbered.{plan_numbered}
use Rattle.router.specs.Room.{read_with_room}
use Rattle.router.specs.Replay.{refused_replay, replay_result, replay_read, replay_of, Accepts}
use Rattle.router.proofs.Holding.{has_room, room_roomy}
use Rattle.router.proofs.Numbered.{room_numbered}
use Rattle.router.proofs.Promises.{room_read}

-- a plan's answer is 0 exactly where the plan is read as good
plan_answer : (j : Job) (plan : List ℕ) (x : Read Routed) → read_plan j plan ≡ x
    → ((replay_result x).refusal ≡ 0) ↔ ((r : Routed) × (read_plan j plan ≡ good r))
unfolding replay_result refused_replay
plan_answer j plan (refused n p) e = (
  λ none. absurd (omega (arith, none, numbered_some (plan_numbered j plan) e)),
  λ (r, is). let z : ◌≡◌ {A = ℕ} 0 1 = cc in absurd (omega arith),
)
plan_answer j plan (good r) e = (λ none. (r, e), λ is. refl)

module _ (bytes plan map work : List ℕ) (below : AllBelow 256 plan) where
  -- with room for a job, exactly where the plan is legal
  room_accepts : (j : Job) → read_with_room bytes map work ≡ good j → ((replay_of bytes plan map work).result.refusal ≡ 0) ↔ LegalPlan j plan
  unfolding replay_of replay_read
  room_accepts j room =
      let read = room_read bytes map work j room in
      let (told, tells) = plan_answer j plan (read_plan j plan) refl in
      let (legal, reads) = plan_two_way j plan (rules_hold bytes j read) below in
      rw room (λ none. legal (told none), λ l. tells (reads l))

  -- without, not at all
  pub replay_accepts : ((replay_of bytes plan map work).result.refusal ≡ 0) ↔ Accepts bytes plan map work
  unfolding replay_of replay_read refused_replay
  replay_accepts = (
    λ none. accepted (read_with_room bytes map work) refl none,
    λ a. (room_accepts a.job (has_room bytes map work a.read a.map_room a.work_room)).1 a.legal,
  )
    where
      accepted : (x : Read Job) → read_with_room bytes map work ≡ x → (replay_of bytes plan map work).result.refusal ≡ 0 → Accepts bytes plan map work
      accepted (refused n p) e none =
          let number : n ≡ 0 = rw e at none in
          absurd (omega (arith, numbered_some (room_numbered bytes map work) e))
      accepted (good j) e none =
          let room = room_roomy bytes map work j e in
          record {
            job = j;
            read = room_read bytes map work j e;
            map_room = room.vertices;
            work_room = room.need;
            legal = (room_accepts j e).0 none;
          }
