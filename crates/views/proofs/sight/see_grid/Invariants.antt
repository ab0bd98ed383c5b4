-- `views::sight::see_grid` meets its contract: the boxes that are left make the bytes whole.
use Rattle.job.specs.Structs.{grid_of}
use Rattle.views.proofs.Guides.{BoxesLeft}
use Rattle.views.proofs.sight.see_grid.Given as goal

abbrev pub invariant-loop-i : goal.invariant-loop-i
invariant-loop-i l = BoxesLeft (grid_of l.grid) l.occupants l.map l.boxes l.count l.initial.seen l.seen l.i
