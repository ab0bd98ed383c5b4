-- `occupants::nets::read_nets` meets its contract.
use native.Mathlib.Omega.{arith}
use Rattle.job.proofs.Refusals.{passed_on}
use Rattle.occupants.proofs.Answers.{told_at, told_refused}
use Rattle.occupants.proofs.NetTurns.{nets_all, nets_next, nets_refused, nets_done}
use Rattle.occupants.proofs.nets.read_nets.Goals as goal

pub loop-net-init : goal.loop-net-init
loop-net-init c = nets_all _ _ _ _ _

pub read_net-requires : goal.read_net-requires
read_net-requires c = (c.requires.0, omega (arith, c.loop-net.invariant.ends))

pub returns-in_err-at : goal.returns-in_err-at
returns-in_err-at c =
    let read = c.in_err-at.ensures in
    told_refused (nets_refused c.loop-net.invariant c.loop-net-test.true read.answer read.occupants)
    (passed_on _ _ c.from_residual.ensures)

pub loop-net-preserved : goal.loop-net-preserved
loop-net-preserved c =
    let read = c.in_ok-at.ensures in
    nets_next c.loop-net.invariant c.loop-net-test.true read.answer read.occupants

pub returns : goal.returns
returns c =
    told_at (nets_done c.loop-net.invariant c.loop-net-test.false)
