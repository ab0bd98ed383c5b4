-- `occupants::nets::read_box` meets its contract: cut, against the rule, or read.
use mathlib.Core.Path.{sym, ◌∙◌}
use Rattle.occupants.proofs.BoxTurns.{box_cut, box_told}
use Rattle.occupants.proofs.nets.read_box.Goals as goal

pub returns-in_default : goal.returns-in_default
returns-in_default c = rw c.at.ensures (sym (box_cut _ _ _ (sym c.box_group.ensures ∙ c.in_default.is)))

pub returns-then-not-good_box : goal.returns-then-not-good_box
returns-then-not-good_box c =
    rw c.at-then-not-good_box.ensures
    (sym ((box_told _ _ _ _ (sym c.box_group.ensures ∙ c.in-Some.is)).bad
    (sym c.if-not-good_box.ensures)))

pub returns : goal.returns
returns c =
    sym ((box_told _ _ _ _ (sym c.box_group.ensures ∙ c.in-Some.is)).fine
    (sym c.if-not-good_box.ensures))
