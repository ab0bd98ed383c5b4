-- `router::replay_call::replay_counted` meets its contract: the job is refused, a slice is short, or the plan is
-- read.
use native.Mathlib.Omega.{arith}
use mathlib.Core.Path.{refl}
use Rattle.reader.proofs.Outcome.{zeros_bare}
use Rattle.replay.proofs.Parts.{passed_same}
use Rattle.router.proofs.Holding.{refused_room, room_short, room_enough, plan_asked}
use Rattle.router.proofs.Promises.{room_read}
use Rattle.router.proofs.Replays.{replay_refused, replay_read_lem, replay_told}
use Rattle.router.proofs.Reports.{counts_none}
use Rattle.router.proofs.replay_call.replay_counted.Goals as goal

pub hold_job-requires : goal.hold_job-requires
hold_job-requires c = zeros_bare

pub returns-in_err-held : goal.returns-in_err-held
returns-in_err-held c =
    let none = refused_room _ _ _ c.in_err-held.ensures in
    rw (passed_same c.from_residual.ensures) (record { outcome = replay_refused _ _ _ _ none; counts = counts_none _ _ _ _ _ _ none })

pub returns-in_err-room_for : goal.returns-in_err-room_for
returns-in_err-room_for c =
    let short = room_short c.in_ok-held.ensures _ _ c.in_err-room_for.ensures refl in
    rw (passed_same c.from_residual-in_err-room_for.ensures) (record { outcome = replay_refused _ _ _ _ short; counts = counts_none _ _ _ _ _ _ short })

pub zero_words-requires : goal.zero_words-requires
zero_words-requires c =
    let h = c.in_ok-held.ensures in
    omega (arith, h.work, (room_enough h _ _ c.in_ok-room_for.ensures refl).need)

pub replay_plan-requires : goal.replay_plan-requires
replay_plan-requires c =
    let h = c.in_ok-held.ensures in
    (plan_asked h (room_enough h _ _ c.in_ok-room_for.ensures refl).vertices, c.requires)

pub returns : goal.returns
returns c =
    let h = c.in_ok-held.ensures in
    let enough = room_enough h _ _ c.in_ok-room_for.ensures refl in
    let read = c.replay_plan.ensures in record {
      outcome = replay_read_lem _ _ _ _ enough.read (replay_told _ _ (read.answer h.job h.read)) (read.map h.job h.read) (rw h.work at c.zero_words.ensures);
      counts = λ j room. read.counts j (room_read _ _ _ j room);
    }
