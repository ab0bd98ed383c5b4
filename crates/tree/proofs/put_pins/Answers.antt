-- `tree::put_pins` meets its contract.
use mathlib.Core.Path.{sym, ◌∙◌}
use Rattle.rules.proofs.Fitting.{one_more}
use Rattle.rules.proofs.Standing.{all_at}
use Rattle.tree.proofs.Turns.{put_turn, put_done}
use Rattle.tree.proofs.put_pins.Goals as goal

pub bounds-spots-pin : goal.bounds-spots-pin
bounds-spots-pin c = all_at _ c.args.pins.now c.loop-pin.pin-index 0 c.requires c.loop-pin-test.true

pub loop-pin-preserved : goal.loop-pin-preserved
loop-pin-preserved c = rw one_more (c.loop-pin.invariant ∙ put_turn _ 2 _ c.loop-pin-test.true)

pub returns : goal.returns
returns c = sym (c.loop-pin.invariant ∙ put_done _ 2 _ c.loop-pin-test.false)
