-- `views::guide::guide_layer` meets its contract: the vertices of the rows below are found.
use Rattle.job.specs.Structs.{grid_of, box_of}
use Rattle.views.specs.Sight.{in_layer}
use Rattle.views.proofs.Axes.{FoundTo}
use Rattle.views.proofs.guide.guide_layer.Given as goal

abbrev pub invariant-loop-row : goal.invariant-loop-row
invariant-loop-row l = FoundTo (grid_of l.grid) (λ w. w.row) (in_layer l.layer (box_of l.guide)) l.initial.seen l.seen l.row
