-- `occupants::nets::read_pins` meets its contract.
use native.Mathlib.Omega.{arith}
use Rattle.job.proofs.Refusals.{passed_on}
use Rattle.occupants.proofs.Answers.{told_at, told_refused}
use Rattle.occupants.proofs.PinTurns.{pins_all, pins_next, pins_refused, pins_done}
use Rattle.occupants.proofs.nets.read_pins.Goals as goal

pub loop-pin-init : goal.loop-pin-init
loop-pin-init c = pins_all _ _ _ _ _

pub read_pin-requires : goal.read_pin-requires
read_pin-requires c = (c.requires.0, omega (arith, c.loop-pin.invariant.ends))

pub returns-in_err-at : goal.returns-in_err-at
returns-in_err-at c =
    let read = c.in_err-at.ensures in
    told_refused (pins_refused c.loop-pin.invariant c.loop-pin-test.true read.answer read.occupants)
    (passed_on _ _ c.from_residual.ensures)

pub loop-pin-preserved : goal.loop-pin-preserved
loop-pin-preserved c =
    let read = c.in_ok-at.ensures in
    pins_next c.loop-pin.invariant c.loop-pin-test.true read.answer read.occupants

pub returns : goal.returns
returns c =
    told_at (pins_done c.loop-pin.invariant c.loop-pin-test.false)
