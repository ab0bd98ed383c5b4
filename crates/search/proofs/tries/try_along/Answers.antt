-- `search::tries::try_along` meets its contract.
use mathlib.Core.Path.{sym, ap, ◌∙◌}
use Rattle.job.specs.declared.groups.Layer.{Layer}
use Rattle.rules.specs.Structs.{grown_of}
use Rattle.rules.proofs.Fitting.{layer_known}
use Rattle.rules.proofs.PriceLists.{line_told}
use Rattle.rules.proofs.Entering.{priced_shut, priced_back, priced_along}
use Rattle.search.specs.Tries.{tried_of}
use Rattle.search.proofs.Asking.{settled_here, settled_short}
use Rattle.search.proofs.tries.try_along.Goals as goal

pub entry_of-requires : goal.entry_of-requires
entry_of-requires c = settled_here c.requires.0

pub returns-in_err-entry : goal.returns-in_err-entry
unfolding tried_of
returns-in_err-entry c =
    rw c.from_residual.ensures (priced_shut _ _ _ _ (sym c.entry_of.ensures ∙ c.in_err-entry.was))

pub line-line-requires : goal.line-line-requires
line-line-requires c = layer_known (settled_here c.requires.0)

pub grow-requires : goal.grow-requires
grow-requires c = settled_short c.requires.0

pub returns-in_err-longer : goal.returns-in_err-longer
unfolding tried_of grown_of
returns-in_err-longer c =
    let pre = c.requires in
    let least = ap (λ (l : Layer). l.least) (c.line-line.ensures ∙ line_told (settled_here pre.0)) in
    rw c.from_residual-in_err-longer.ensures (priced_back _ _ _ _ (sym c.entry_of.ensures ∙ c.in_ok-entry.was) pre.1 least (sym c.grow.ensures ∙ ap grown_of c.in_err-longer.was))

pub returns : goal.returns
unfolding tried_of grown_of
returns c =
    let pre = c.requires in
    let least = ap (λ (l : Layer). l.least) (c.line-line.ensures ∙ line_told (settled_here pre.0)) in
    priced_along _ _ _ _ (sym c.entry_of.ensures ∙ c.in_ok-entry.was) pre.1 least (sym c.grow.ensures ∙ ap grown_of c.in_ok-longer.was)
