-- `rules::step::entry_of` meets its contract: each way out by its law.
use mathlib.Core.Path.{sym, ap, ◌∙◌}
use native.Mathlib.Omega.{arith}
use Rattle.rules.specs.Structs.{tech_by, cost_of}
use Rattle.rules.proofs.Fitting.{entered_outside, entered_at}
use Rattle.rules.proofs.Held.{on_grid_lem, in_array}
use Rattle.rules.proofs.PriceLists.{entry_outside, into_below, entry_shut, base_asked, entry_open, entry_fits}
use Rattle.rules.proofs.step.entry_of.Goals as goal

pub entered_by-requires : goal.entered_by-requires
entered_by-requires c = (on_grid_lem c.args.prices.now.fits c.requires.there, c.requires.is)

pub returns-in_err-into : goal.returns-in_err-into
unfolding tech_by
returns-in_err-into c = rw c.from_residual.ensures (entry_outside _ _ _ _ (entered_outside _ (sym c.in_err-into.ensures)))

pub bounds-seen-into : goal.bounds-seen-into
bounds-seen-into c =
    let on = entered_at _ (sym c.in_ok-into.ensures) in
    in_array c.args.prices.now.fits (into_below c.args.seen.now c.args.number c.requires on)

pub returns-in_default : goal.returns-in_default
unfolding cost_of
returns-in_default c =
    let on = entered_at _ (sym c.in_ok-into.ensures) in
    entry_shut c.args.seen.now c.args.number c.requires on (sym c.extra.ensures ∙ ap cost_of c.in_default.is)

pub base-requires : goal.base-requires
base-requires c =
    let on = entered_at _ (sym c.in_ok-into.ensures) in
    base_asked c.args.seen.now c.args.number c.requires on c.kind_of.ensures

pub overflow_add-result : goal.overflow_add-result
unfolding cost_of
overflow_add-result c =
    let on = entered_at _ (sym c.in_ok-into.ensures) in
    omega (arith, entry_fits c.args.seen.now c.args.number c.requires on c.kind_of.ensures (sym c.extra.ensures ∙ ap cost_of c.in-Price.is) c.base.ensures)

pub returns : goal.returns
unfolding cost_of
returns c =
    let on = entered_at _ (sym c.in_ok-into.ensures) in
    entry_open c.args.seen.now c.args.number c.requires on c.kind_of.ensures (sym c.extra.ensures ∙ ap cost_of c.in-Price.is) c.base.ensures
