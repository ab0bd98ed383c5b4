-- `occupants::obstacles::read_obstacles` meets its contract: reading what is left from here gives what
-- reading them all gives.
use Prim.Native.Nat.{◌+◌, ◌-◌, ◌*◌}
use mathlib.Core.Path.{◌≡◌}
use Rattle.bits.specs.Bits.{bits_of}
use Rattle.job.specs.Structs.{grid_of}
use Rattle.occupants.specs.Occupants.{obstacles_from}
use Rattle.occupants.proofs.obstacles.read_obstacles.Given as goal

abbrev pub invariant-loop-obstacle : goal.invariant-loop-obstacle
invariant-loop-obstacle l =
    (l.at ≡ l.from + 27 * l._obstacle)
    × (obstacles_from (bits_of l.s) (grid_of l.grid) l.count l.from l.initial.occupants ≡ obstacles_from (bits_of l.s) (grid_of l.grid) (l.count - l._obstacle) l.at l.occupants)
