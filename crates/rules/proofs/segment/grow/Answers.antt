-- `rules::segment::grow` meets its contract.
use mathlib.Core.Path.{ap, ◌∙◌}
use native.Mathlib.Omega.{arith}
use Rattle.rules.specs.Segments.{of_length, not_against, grown, grow}
use Rattle.rules.specs.Structs.{segment_of, grown_of, Short}
use Rattle.rules.proofs.Fitting.{one_more}
use Rattle.rules.proofs.segment.grow.Goals as goal

pub overflow_add-length : goal.overflow_add-length
unfolding Short
overflow_add-length c =
    let short : Short c.args.segment = c.requires in
    omega (arith, rw c.in-Running.is at short)

pub returns-in-Fresh : goal.returns-in-Fresh
unfolding grow segment_of grown_of
returns-in-Fresh c = rw c.in-Fresh.is (ap grown c.of_length.ensures)

pub returns-in-Running : goal.returns-in-Running
unfolding grow segment_of grown_of
returns-in-Running c = rw c.in-Running.is (c.not_against.ensures ∙ ap (not_against _ _) (c.of_length-in-Running.ensures ∙ ap (of_length _ _) (one_more _)))

pub returns-in-Paid : goal.returns-in-Paid
unfolding grow segment_of grown_of
returns-in-Paid c = rw c.in-Paid.is

pub returns-in-PaidToward : goal.returns-in-PaidToward
unfolding grow segment_of grown_of
returns-in-PaidToward c = rw c.in-PaidToward.is c.not_against-in-PaidToward.ensures
