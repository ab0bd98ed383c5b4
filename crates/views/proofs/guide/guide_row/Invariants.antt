-- `views::guide::guide_row` meets its contract: the vertices at the columns below are found.
use Rattle.job.specs.Structs.{grid_of, box_of}
use Rattle.views.specs.Sight.{in_row}
use Rattle.views.proofs.Axes.{FoundTo}
use Rattle.views.proofs.guide.guide_row.Given as goal

abbrev pub invariant-loop-column : goal.invariant-loop-column
invariant-loop-column l = FoundTo (grid_of l.grid) (λ w. w.column) (in_row l.layer l.row (box_of l.guide)) l.initial.seen l.seen l.column
