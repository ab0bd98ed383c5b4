-- `rules::step::by_segment` meets its contract.
use mathlib.Core.Path.{ap, ◌∙◌}
use Rattle.job.specs.declared.groups.Layer.{Layer}
use Rattle.rules.specs.Steps.{by_segment}
use Rattle.rules.specs.Structs.{kind_by}
use Rattle.rules.proofs.Entering.{via_told, via_leaves}
use Rattle.rules.proofs.Fitting.{layer_known}
use Rattle.rules.proofs.PriceLists.{line_told}
use Rattle.rules.proofs.step.by_segment.Goals as goal

pub leave_layer-requires : goal.leave_layer-requires
leave_layer-requires c = c.requires.0

pub returns-in_default : goal.returns-in_default
returns-in_default c =
    rw (via_leaves _ _ _ _ _ _ (via_told _ c.in_default.not-Along)) c.leave_layer.ensures

pub line-line-requires : goal.line-line-requires
line-line-requires c = layer_known c.requires.0

pub step_along-requires : goal.step_along-requires
step_along-requires c = c.requires.1

pub returns : goal.returns
unfolding by_segment kind_by
returns c =
    let least = ap (λ (l : Layer). l.least) (c.line-line.ensures ∙ line_told c.requires.0) in
    rw (c.in-Along.is, ← least) (c.step_along.ensures _ _ _)
