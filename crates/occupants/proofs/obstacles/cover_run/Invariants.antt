-- `occupants::obstacles::cover_run` meets its contract: covering what is left from here gives what covering
-- the whole run gives.
use Prim.Native.Nat.{◌-◌}
use mathlib.Core.Path.{◌≡◌}
use Rattle.occupants.specs.Occupants.{cover_every, RunInside}
use Rattle.occupants.proofs.obstacles.cover_run.Given as goal

abbrev pub invariant-loop-covered : goal.invariant-loop-covered
invariant-loop-covered l =
    RunInside l.stride (l.run - l._covered) l.at
    × (cover_every l.stride l.run l.first l.initial.occupants ≡ cover_every l.stride (l.run - l._covered) l.at l.occupants)
