-- `views::guide::guide_box` meets its contract: the vertices of the layers below are found.
use Rattle.job.specs.Structs.{grid_of, box_of}
use Rattle.rules.specs.Views.{in_box}
use Rattle.views.proofs.Axes.{FoundTo}
use Rattle.views.proofs.guide.guide_box.Given as goal

abbrev pub invariant-loop-layer : goal.invariant-loop-layer
invariant-loop-layer l = FoundTo (grid_of l.grid) (λ w. w.layer) (λ w. in_box w (box_of l.guide)) l.initial.seen l.seen l.layer
