-- `rules::step::leave_layer` meets its contract.
use mathlib.Core.Path.{ap, ◌∙◌}
use native.Mathlib.Omega.{arith}
use Rattle.job.specs.declared.groups.Layer.{Layer}
use Rattle.rules.specs.Structs.{tech_by}
use Rattle.rules.proofs.Fitting.{layer_known}
use Rattle.rules.proofs.Held.{line_fits}
use Rattle.rules.proofs.PriceLists.{line_told}
use Rattle.rules.proofs.step.leave_layer.Goals as goal

pub track_of-track-requires : goal.track_of-track-requires
track_of-track-requires c = (c.args.prices.now.fits.sized.small, layer_known c.requires)

pub overhead_of-overhead-requires : goal.overhead_of-overhead-requires
overhead_of-overhead-requires c = (c.requires, c.track_of-track.ensures)

pub line-requires : goal.line-requires
line-requires c = layer_known c.requires

pub leave_by-requires : goal.leave_by-requires
leave_by-requires c =
    let is = c.line.ensures ∙ line_told c.requires in
    (omega (arith, ap (λ (l : Layer). l.wire) is, (line_fits c.args.prices.now.fits c.requires.there).wire), c.overhead_of-overhead.ensures.few)

pub returns : goal.returns
unfolding tech_by
returns c = c.leave_by.ensures _ _ _ _ (rw (c.line.ensures ∙ line_told c.requires) c.overhead_of-overhead.ensures)
