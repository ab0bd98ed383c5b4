-- `bounds::fill::fill_axis` meets its contract: the entries below are filled.
use Prim.Native.Nat.{◌≤◌}
use mathlib.Core.Path.{◌≡◌}
use Rattle.bounds.specs.Fills.{axis_filled}
use Rattle.bounds.proofs.fill.fill_axis.Given as goal

abbrev pub invariant-loop-i : goal.invariant-loop-i
invariant-loop-i l = (l.i ≤ l.count) × (l.bounds ≡ axis_filled l.span l.price l.first l.i l.initial.bounds)
