-- `rules::step::step` meets its contract.
use Rattle.rules.proofs.Held.{on_grid_lem}
use Rattle.rules.proofs.step.step.Goals as goal

pub vertex_by-from-requires : goal.vertex_by-from-requires
vertex_by-from-requires c = on_grid_lem c.args.prices.now.fits c.requires.0

pub step_from-requires : goal.step_from-requires
step_from-requires c = (record { there = c.requires.0; is = c.vertex_by-from.ensures }, c.requires.1)

pub returns : goal.returns
returns c = c.step_from.ensures
