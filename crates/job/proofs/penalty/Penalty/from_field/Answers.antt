-- `job::penalty::Penalty::from_field` meets its contract.
use borrow.Author.Tests.{eq-eqb, ne_eqb}
use Rattle.job.specs.Structs.{penalty_of}
use Rattle.job.proofs.penalty.Penalty.from_field.Goals as goal

pub returns-then-field-eq-CLOSED : goal.returns-then-field-eq-CLOSED
unfolding penalty_of
returns-then-field-eq-CLOSED c = rw (eq-eqb _ _ c.if-field-eq-CLOSED.true)

pub returns-else-field-eq-CLOSED : goal.returns-else-field-eq-CLOSED
unfolding penalty_of
returns-else-field-eq-CLOSED c = rw (ne_eqb _ _ c.if-field-eq-CLOSED.false)
