-- `search::tries::ask_owed` meets its contract.
use mathlib.Core.Path.{ap, ◌∙◌}
use native.Mathlib.Omega.{arith}
use Rattle.job.specs.declared.groups.Layer.{Layer}
use Rattle.rules.specs.Structs.{tech_by, owed_cost}
use Rattle.rules.proofs.Fitting.{layer_known}
use Rattle.rules.proofs.Held.{line_fits}
use Rattle.rules.proofs.PriceLists.{line_told}
use Rattle.rules.proofs.Entering.{owed_told}
use Rattle.search.specs.Tries.{OwedFor}
use Rattle.search.proofs.Asking.{settled_here}
use Rattle.search.proofs.tries.ask_owed.Goals as goal

pub returns-in-Some : goal.returns-in-Some
unfolding OwedFor
returns-in-Some c = rw c.in-Some.is at c.requires.1

pub track_of-track-requires : goal.track_of-track-requires
track_of-track-requires c =
    let here = settled_here c.requires.0 in
    (c.args.prices.now.fits.sized.small, layer_known here)

pub overhead_of-overhead-requires : goal.overhead_of-overhead-requires
overhead_of-overhead-requires c = (settled_here c.requires.0, c.track_of-track.ensures)

pub line-requires : goal.line-requires
line-requires c = layer_known (settled_here c.requires.0)

pub overhead_price-requires : goal.overhead_price-requires
overhead_price-requires c =
    let here = settled_here c.requires.0 in
    (omega (arith, ap (λ (l : Layer). l.wire) (c.line.ensures ∙ line_told here), (line_fits c.args.prices.now.fits here.there).wire), c.overhead_of-overhead.ensures.few)

pub returns : goal.returns
unfolding owed_cost tech_by
returns c =
    let here = settled_here c.requires.0 in
    c.overhead_price.ensures ∙ owed_told _ _ _ _ (c.line.ensures ∙ line_told here) c.overhead_of-overhead.ensures
