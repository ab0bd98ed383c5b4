-- `rules::step::leave_by` meets its contract, by what is owed.
use mathlib.Core.Path.{sym, ap, ◌∙◌}
use Rattle.rules.specs.Structs.{cost_of, overhead_cost}
use Rattle.rules.proofs.Stepping.{extension_none, owed_nothing, owed_lengthened, owed_penalised, owed_forbidden, owed_closed}
use Rattle.rules.proofs.step.leave_by.Goals as goal

pub overhead_price-requires : goal.overhead_price-requires
overhead_price-requires c = c.requires

pub returns-in_default : goal.returns-in_default
unfolding cost_of
returns-in_default c g view p owed owes =
    owed_closed _ _ _ _ _ _ _ _ owes (sym (ap cost_of c.in_default.is) ∙ c.overhead_price.ensures)

pub returns-in-Nothing : goal.returns-in-Nothing
unfolding cost_of
returns-in-Nothing c g view p owed owes =
    let told = c.in-Nothing.is in
    rw c.by_via.ensures
    (owed_nothing _ _ _ _ _ _ _ (rw told at owes)
    (sym (ap cost_of c.in-Price.is) ∙ c.overhead_price.ensures ∙ ap (overhead_cost _) told)
    (extension_none c.default.ensures))

pub returns-in-Lengthened : goal.returns-in-Lengthened
unfolding cost_of
returns-in-Lengthened c g view p owed owes =
    let told = c.in-Lengthened.is in
    rw c.by_via-in-Lengthened.ensures
    (owed_lengthened _ _ _ _ _ _ _ (rw told at owes)
    (sym (ap cost_of c.in-Price.is) ∙ c.overhead_price.ensures ∙ ap (overhead_cost _) told))

pub returns-in-Penalised : goal.returns-in-Penalised
unfolding cost_of
returns-in-Penalised c g view p owed owes =
    let told = c.in-Penalised.is in
    rw c.by_via-in-Penalised.ensures
    (owed_penalised _ _ _ _ _ _ _ (rw told at owes)
    (sym (ap cost_of c.in-Price.is) ∙ c.overhead_price.ensures ∙ ap (overhead_cost _) told)
    (extension_none c.default-in-Penalised.ensures))

pub returns-in-Forbidden : goal.returns-in-Forbidden
returns-in-Forbidden c g view p owed owes = owed_forbidden _ _ _ _ _ _ c.args.line (rw c.in-Forbidden.is at owes)
