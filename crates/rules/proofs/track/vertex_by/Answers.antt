-- `rules::track::vertex_by` meets its contract.
use mathlib.Core.Path.{refl}
use native.Mathlib.Omega.{arith}
use Rattle.rules.specs.Tracks.{layer_of, row_of, column_of}
use Rattle.rules.proofs.Fitting.{fits}
use Rattle.rules.proofs.track.vertex_by.Goals as goal

pub overflow_mul-result : goal.overflow_mul-result
overflow_mul-result c = omega (arith, (fits c.args.grid c.args.v c.requires).level)

pub nonzero_div-result : goal.nonzero_div-result
nonzero_div-result c = (fits c.args.grid c.args.v c.requires).some

pub nonzero_div-result-2 : goal.nonzero_div-result-2
nonzero_div-result-2 c = (fits c.args.grid c.args.v c.requires).columns

pub nonzero_rem-result : goal.nonzero_rem-result
nonzero_rem-result c =
    (fits c.args.grid c.args.v c.requires).rows

pub nonzero_rem-result-2 : goal.nonzero_rem-result-2
nonzero_rem-result-2 c =
    (fits c.args.grid c.args.v c.requires).columns

pub returns : goal.returns
unfolding layer_of row_of column_of
returns c = refl
