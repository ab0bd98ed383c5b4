-- `views::guide::in_box` meets its contract: each way out is decided by one axis.
use mathlib.Core.Path.{sym, ◌∙◌}
use Rattle.job.specs.Structs.{box_of}
use Rattle.rules.proofs.Boxes.{box_layer, box_row, box_column}
use Rattle.views.proofs.guide.in_box.Goals as goal

pub returns-then-not-on_layers : goal.returns-then-not-on_layers
returns-then-not-on_layers c =
    let args = c.args in
    sym (box_layer _ (box_of args.guide) (sym c.on_layers.ensures ∙ c.if-not-on_layers.true))

pub returns-then-not-on_rows : goal.returns-then-not-on_rows
returns-then-not-on_rows c =
    let args = c.args in
    sym (box_row _ (box_of args.guide) (sym c.on_rows.ensures ∙ c.if-not-on_rows.true))

pub returns : goal.returns
returns c =
    let args = c.args in
    c.on_columns.ensures
    ∙ sym (box_column _ (box_of args.guide)
    (sym c.on_layers.ensures ∙ c.if-not-on_layers.false)
    (sym c.on_rows.ensures ∙ c.if-not-on_rows.false))
