-- Replay's answer from what reading answered.
--     replay_refused     a refusal from 1 to 13
--     replay_read_lem    the plan's answer
--     replay_parts       an outcome in its parts, with what it accepts
--     replay_told        the plan's answer, as the call tells it
use Prim.Native.Nat.{ℕ}
use mathlib.Core.Path.{◌≡◌, refl, sym, ap, ◌∙◌}
use mathlib.Core.Logic.{◌↔◌}
use mathlib.Core.List.{List}
use Rattle.bits.specs.Puts.{AllBelow}
use Rattle.job.specs.Job.{Job}
use Rattle.std.proofs.Common.{Result, Ok, Err}
use Rattle.job.specs.Reading.{Read, refused, good}
use Rattle.job.specs.declared.refusal.Refused.{Refused}
use Rattle.rules.specs.Routings.{Routed}
use Rattle.job.specs.Slices.{zeroed}
use Rattle.plan.specs.Reading.{read_plan}
use Rattle.replay.specs.Structs.{IsReplayed}
use Rattle.plan.specs.Leaving.{replayed_map}
use Rattle.rules.specs.declared.totals.Totals.{Totals as TotalsStruct}
use Rattle.router.specs.Room.{work_need, read_with_room}
use Rattle.router.specs.Replay.{refused_replay, replay_result, replay_read, replay_of, Accepts}
use Rattle.router.specs.Held.{replay_answer, replay_leaves}
use Rattle.router.specs.declared.replay_call.ReplayResult.{ReplayResult}
use Rattle.router.proofs.Accepting.{replay_accepts}

module _ (bytes plan map work : List ℕ) where
  -- a refusal from 1 to 13 leaves all as found
  pub replay_refused : {n p : ℕ} → read_with_room bytes map work ≡ refused n p
      → replay_leaves (refused_replay n p) map work ≡ replay_of bytes plan map work
  unfolding replay_of replay_read
  replay_refused e = rw e refl

  -- the plan's answer
  pub replay_read_lem : {j : Job} {r : ReplayResult} {mapNow workNow : List ℕ} → read_with_room bytes map work ≡ good j
      → r ≡ replay_result (read_plan j plan) → mapNow ≡ replayed_map j (read_plan j plan) map → workNow ≡ zeroed (work_need j) work
      → replay_leaves r mapNow workNow ≡ replay_of bytes plan map work
  unfolding replay_of replay_read
  replay_read_lem e is laid zeros = rw (e, is, laid, zeros) refl

-- an outcome in its parts, with what it accepts
pub replay_parts : (bytes plan map work : List ℕ) → AllBelow 256 plan → {r : ReplayResult} {mapNow workNow : List ℕ}
    → replay_leaves r mapNow workNow ≡ replay_of bytes plan map work
    → (r ≡ (replay_of bytes plan map work).result)
    × ((mapNow ≡ (replay_of bytes plan map work).map)
    × ((workNow ≡ (replay_of bytes plan map work).work) × ((r.refusal ≡ 0) ↔ Accepts bytes plan map work)))
replay_parts bytes plan map work below {r} e =
    let (accepted, accepts) = replay_accepts bytes plan map work below in
    let number : r.refusal ≡ (replay_of bytes plan map work).result.refusal = λ i. (e i).result.refusal in
    (λ i. (e i).result, (λ i. (e i).map, (λ i. (e i).work, (λ none. accepted (sym number ∙ none), λ a. number ∙ accepts a))))

-- the plan's answer, as the call tells it
pub replay_told : (x : Result TotalsStruct Refused) (read : Read Routed) → IsReplayed x read → replay_answer x ≡ replay_result read
unfolding IsReplayed replay_result
replay_told (Err r) read is = sym (ap replay_result is)
replay_told (Ok totals) read (r, e, total) =
    (λ i. record { refusal = 0; place = 0; cost = (total i).cost; added = (total i).added; penalties = (total i).penalties; joined = (total i).joined })
    ∙ sym (ap replay_result e)
