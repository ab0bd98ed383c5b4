-- `rules::segment::heading_of` meets its contract.
use borrow.Author.Rules.{rules}
use Rattle.rules.specs.Structs.{direction_of, heading_of, segment_of}
use Rattle.rules.proofs.segment.heading_of.Goals as goal

pub returns-in-Fresh : goal.returns-in-Fresh
unfolding direction_of heading_of segment_of
returns-in-Fresh c = search rules

pub returns-in-Running : goal.returns-in-Running
unfolding direction_of heading_of segment_of
returns-in-Running c = search rules

pub returns-in-Paid : goal.returns-in-Paid
unfolding direction_of heading_of segment_of
returns-in-Paid c = search rules

pub returns-in-PaidToward : goal.returns-in-PaidToward
unfolding direction_of heading_of segment_of
returns-in-PaidToward c = search rules
