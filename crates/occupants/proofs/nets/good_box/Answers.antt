-- `occupants::nets::good_box` meets its contract: each way out is decided by one axis.
use mathlib.Core.Path.{sym, ◌∙◌}
use Rattle.job.specs.Structs.{grid_of, box_of}
use Rattle.occupants.proofs.BoxTurns.{box_layers, box_rows, box_columns}
use Rattle.occupants.proofs.nets.good_box.Goals as goal

pub returns-then-not-good_span : goal.returns-then-not-good_span
returns-then-not-good_span c =
    sym (box_layers (grid_of c.args.grid) (box_of c.args.b)
    (sym c.if-not-good_span.ensures))

pub returns-then-not-good_span-2 : goal.returns-then-not-good_span-2
returns-then-not-good_span-2 c =
    let args = c.args in
    sym (box_rows (grid_of args.grid) (box_of args.b)
    (sym c.if-not-good_span.ensures)
    (sym c.if-not-good_span-2.ensures))

pub returns : goal.returns
returns c =
    let args = c.args in
    c.good_span-3.ensures
    ∙ sym (box_columns (grid_of args.grid) (box_of args.b)
    (sym c.if-not-good_span.ensures)
    (sym c.if-not-good_span-2.ensures))
