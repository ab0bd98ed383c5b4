-- `rules::list::outside_field` meets its contract.
use Prim.Native.Nat.{◌/◌, ◌%◌}
use mathlib.Core.Path.{refl}
use borrow.Author.Tests.{eq-eqb, ne_eqb}
use Rattle.rules.specs.Seen.{holds}
use Rattle.rules.specs.PriceLists.{outside_field}
use Rattle.rules.proofs.list.outside_field.Goals as goal

pub returns-then-byte-eq1 : goal.returns-then-byte-eq1
unfolding outside_field holds
returns-then-byte-eq1 c = rw (eq-eqb (c.args.byte / 4 % 2) 1 c.if-byte-eq1.true) refl

pub returns-else-byte-eq1 : goal.returns-else-byte-eq1
unfolding outside_field holds
returns-else-byte-eq1 c = rw (ne_eqb (c.args.byte / 4 % 2) 1 c.if-byte-eq1.false) refl
