-- `views::sight::see_grid` meets its contract.
use borrow.Author.Rules.{rules}
use mathlib.Core.Path.{◌∙◌}
use native.Mathlib.Omega.{arith}
use Rattle.views.proofs.Guides.{guide_begin, guide_turn, guide_end}
use Rattle.views.proofs.sight.see_grid.Goals as goal

pub see_occupants-requires : goal.see_occupants-requires
see_occupants-requires c = (omega arith, omega arith, omega (arith, c.requires.0.vertices))

pub loop-i-init : goal.loop-i-init
loop-i-init c = guide_begin _ _ _ _ _ (λ v on. c.see_occupants.ensures v (omega (arith, on, c.vertices.ensures)))

pub guide_box-requires : goal.guide_box-requires
guide_box-requires c = (c.requires.0, omega arith)

pub loop-i-preserved : goal.loop-i-preserved
loop-i-preserved c = guide_turn _ _ _ _ _ c.loop-i.invariant c.loop-i-test.true c.box_in.ensures (search rules) c.guide_box.ensures

pub shape_of-seen : goal.shape_of-seen
shape_of-seen c = c.loop-i.invariant.size ∙ search rules

pub returns : goal.returns
returns c = guide_end _ _ _ _ _ c.loop-i.invariant (omega arith)
