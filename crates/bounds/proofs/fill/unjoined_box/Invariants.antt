-- `bounds::fill::unjoined_box` meets its contract: the box of the unjoined ones of the pins below.
use Prim.Native.Nat.{◌≤◌}
use mathlib.Core.Path.{◌≡◌}
use Rattle.job.specs.Structs.{grid_of}
use Rattle.bounds.specs.Fills.{unjoined_box}
use Rattle.bounds.proofs.fill.unjoined_box.Given as goal

abbrev pub invariant-loop-pin : goal.invariant-loop-pin
invariant-loop-pin l = (l.pin-index ≤ l.count) × (l.around ≡ unjoined_box (grid_of l.grid) l.spots l.pins l.pin-index)
