-- `tree::put_pins` meets its contract: putting at the pins that are left gives what putting at all gives.
use mathlib.Core.Path.{◌≡◌}
use lib.ListN.{drop}
use Rattle.tree.specs.Spots.{put_all}
use Rattle.tree.proofs.put_pins.Given as goal

abbrev pub invariant-loop-pin : goal.invariant-loop-pin
invariant-loop-pin l = put_all 2 l.pins l.initial.spots ≡ put_all 2 (drop l.pin-index l.pins) l.spots
