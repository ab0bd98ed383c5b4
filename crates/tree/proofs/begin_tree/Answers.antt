-- `tree::begin_tree` meets its contract.
use mathlib.Core.Path.{sym}
use native.Mathlib.Omega.{arith}
use Rattle.tree.proofs.Turns.{pin_vertex, begun_some, begun_none}
use Rattle.tree.proofs.begin_tree.Goals as goal

pub returns-then-count-eq0 : goal.returns-then-count-eq0
returns-then-count-eq0 c = sym (begun_none _ _ c.if-count-eq0.true)

pub bounds-spots-pins : goal.bounds-spots-pins
bounds-spots-pins c = pin_vertex c.requires (omega (arith, c.if-count-eq0.false))

pub returns : goal.returns
returns c = rw c.put_pins.ensures (sym (begun_some _ _ _ c.requires c.if-count-eq0.false))
