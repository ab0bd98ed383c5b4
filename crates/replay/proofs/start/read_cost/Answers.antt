-- `replay::start::read_cost` meets its contract.
use mathlib.Core.Path.{refl, sym, ap, ◌∙◌}
use native.Mathlib.Omega.{arith}
use borrow.Author.Tests.{eq-eqb, ne_eqb}
use Rattle.bits.specs.declared.FieldRead.{FieldRead}
use Rattle.job.proofs.Fields.{is_whole, is_cut, all_left, room}
use Rattle.replay.proofs.Parts.{cost_cut, cost_other, cost_same}
use Rattle.replay.proofs.start.read_cost.Goals as goal

pub returns-then-not-whole : goal.returns-then-not-whole
returns-then-not-whole c = rw (c.at.ensures, cost_cut _ _ _ (is_cut 40 _ _ c.whole.ensures c.if-not-whole.true)) refl

pub field-held-requires : goal.field-held-requires
field-held-requires c = room tt (all_left 40 (is_whole 40 _ _ c.whole.ensures c.if-not-whole.false) (omega (arith, c.requires)))

pub returns-then-held-cost : goal.returns-then-held-cost
returns-then-held-cost c =
    rw (
      c.at-then-held-cost.ensures,
      cost_other _ _ _ (is_whole 40 _ _ c.whole.ensures c.if-not-whole.false)
          (ne_eqb _ _ (λ e. c.if-held-cost.true (ap (λ (t : FieldRead). t.value) c.field-held.ensures ∙ e))),
    ) refl

pub returns : goal.returns
returns c =
    rw (cost_same _ _ _ (is_whole 40 _ _ c.whole.ensures c.if-not-whole.false)
    (eq-eqb _ _ (sym (ap (λ (t : FieldRead). t.value) c.field-held.ensures) ∙ c.if-held-cost.false))) refl
