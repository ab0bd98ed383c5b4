-- `router::replay_call::maizespell_replay` meets its contract.
use Rattle.router.proofs.Holding.{bytes_below}
use Rattle.router.proofs.Replays.{replay_parts}
use Rattle.router.proofs.Reports.{zeros_fit}
use Rattle.router.proofs.replay_call.maizespell_replay.Goals as goal

pub replay_counted-requires : goal.replay_counted-requires
replay_counted-requires c = zeros_fit 48

pub returns : goal.returns
returns c =
    let all = replay_parts _ _ _ _ (bytes_below _ c.type_inv.plan) c.replay_counted.ensures.outcome in
    rw c.from.ensures (record { result = all.0; map = all.1.0; work = all.1.1.0; accepts = all.1.1.1 })
