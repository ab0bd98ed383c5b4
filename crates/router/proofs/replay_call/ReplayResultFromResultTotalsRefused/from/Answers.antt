-- `From` for `ReplayResult` meets its contract.
use mathlib.Core.Path.{refl}
use Rattle.router.specs.Replay.{refused_replay}
use Rattle.router.proofs.replay_call.ReplayResultFromResultTotalsRefused.from.Goals as goal

pub returns-in-Err : goal.returns-in-Err
unfolding refused_replay
returns-in-Err c = rw (c.in-Err.is, c.number.ensures) refl
