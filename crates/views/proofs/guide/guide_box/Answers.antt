-- `views::guide::guide_box` meets its contract.
use mathlib.Core.Path.{sym, ◌∙◌}
use native.Mathlib.Omega.{arith}
use Rattle.rules.proofs.Vertices.{vertex_below}
use Rattle.views.specs.Sight.{in_layer}
use Rattle.views.proofs.Axes.{found_begin, found_turn, found_none, found_end}
use Rattle.views.proofs.Rows.{layer_outside}
use Rattle.views.proofs.guide.guide_box.Goals as goal
use Rattle.views.proofs.guide.guide_box.Goals.{then-on_layers, else-on_layers}

pub loop-layer-init : goal.loop-layer-init
loop-layer-init c = found_begin _ _ _ _

pub guide_layer-requires : goal.guide_layer-requires
guide_layer-requires c =
    let pre = c.requires in
    (pre.0, omega arith, omega arith)

pub loop-layer-preserved : goal.loop-layer-preserved
unfolding in_layer
loop-layer-preserved c =
    let so_far = c.loop-layer.invariant in
    let asked = c.on_layers.ensures in
    elim c.if-on_layers.branch [
      | then-on_layers w ↦ rw w.seen-is (found_turn _ _ _ so_far w.guide_layer.auto.seen w.guide_layer.ensures)
      | else-on_layers w ↦ rw w.seen-is (found_none _ _ _ so_far (layer_outside _ _ (sym asked ∙ w.if-on_layers.false)))
    ]

pub shape_of-seen : goal.shape_of-seen
shape_of-seen c = c.loop-layer.invariant.size

pub returns : goal.returns
returns c = found_end _ _ _ c.loop-layer.invariant (λ v on. omega (arith, c.loop-layer-test.false, (vertex_below _ on).layer))
