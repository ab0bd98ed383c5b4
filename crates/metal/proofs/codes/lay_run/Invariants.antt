-- `metal::codes::lay_run` meets its contract: so many vertices are laid, and laying those that are left
-- beyond the last gives all.
use Prim.Native.Nat.{ℕ, ◌≤◌, ◌<◌}
use mathlib.Core.Path.{◌≡◌}
use Rattle.job.specs.Grid.{vertices, stride_of}
use Rattle.job.specs.Structs.{grid_of}
use Rattle.job.specs.declared.grid.Grid.{Grid as GridStruct}
use Rattle.rules.specs.Tracks.{layer_of}
use Rattle.rules.specs.Structs.{direction_of, room_toward}
use Rattle.rules.specs.declared.segment.Direction.{Direction}
use Rattle.metal.proofs.Turns.{Running}
use Rattle.metal.proofs.codes.lay_run.Given as goal

-- a fact of every grid on which the end lies with room for so many (the loop no longer holds the end)
abbrev pub OnEnd : (v stride count : ℕ) → Direction → (GridStruct → Type 0) → Type 0
OnEnd v stride count toward fact =
    (g : GridStruct) → v < vertices (grid_of g) → stride_of (grid_of g) (layer_of (grid_of g) v) ≡ stride
    → count ≤ room_toward (grid_of g) (direction_of toward) v → fact g

abbrev pub invariant-loop-count : goal.invariant-loop-count
invariant-loop-count l =
    OnEnd l.initial.last l.stride l._count-end l.toward (λ g. Running (grid_of g) (direction_of l.toward) l.net l._count-end l.initial.last l.initial.map l.stride l.last l._count l.map)
