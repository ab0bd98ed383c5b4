-- `reader::layers::read_layer` meets its contract: each way out is one of the line's rules.
use mathlib.Core.Path.{sym, ◌∙◌}
use Rattle.reader.proofs.Lines.{layer_cut, line_rules}
use Rattle.reader.proofs.layers.read_layer.Goals as goal

pub returns-in_default : goal.returns-in_default
returns-in_default c = rw c.at.ensures (sym (layer_cut _ _ _ (sym c.layer_group.ensures ∙ c.in_default.is)))

pub returns-then-line-lt1 : goal.returns-then-line-lt1
returns-then-line-lt1 c =
    rw c.at-then-line-lt1.ensures
    (sym ((line_rules _ _ _ _ (sym c.layer_group.ensures ∙ c.in-Some.is)).wire c.if-line-lt1.true))

pub returns-then-not-via_rule : goal.returns-then-not-via_rule
returns-then-not-via_rule c =
    rw c.at-then-not-via_rule.ensures
    (sym ((line_rules _ _ _ _ (sym c.layer_group.ensures ∙ c.in-Some.is)).via c.if-line-lt1.false
    (sym c.if-not-via_rule.ensures)))

pub returns-then-line-lt1-2 : goal.returns-then-line-lt1-2
returns-then-line-lt1-2 c =
    rw c.at-then-line-lt1-2.ensures
    (sym ((line_rules _ _ _ _ (sym c.layer_group.ensures ∙ c.in-Some.is)).least c.if-line-lt1.false
    (sym c.if-not-via_rule.ensures) c.if-line-lt1-2.true))

pub returns : goal.returns
returns c =
    sym ((line_rules _ _ _ _ (sym c.layer_group.ensures ∙ c.in-Some.is)).fine c.if-line-lt1.false
    (sym c.if-not-via_rule.ensures) c.if-line-lt1-2.false)
