-- `rules::list::extra_field` meets its contract: what closes the vertex is read first.
use Prim.Native.Nat.{ℕ, ◌/◌, ◌%◌}
use mathlib.Core.Path.{◌≡◌, refl}
use mathlib.Core.Bool.{Bool, ◌||◌, cond}
use native.Mathlib.Omega.{arith}
use lib.Dec.{eqb}
use borrow.Author.Tests.{eq-eqb, ne_eqb}
use Rattle.job.specs.Job.{closed_price}
use Rattle.rules.specs.Seen.{holds}
use Rattle.rules.specs.PriceLists.{outside_field, extra_field}
use Rattle.rules.proofs.list.extra_field.Goals as goal

-- the field by what the code has read: whether the vertex is closed, and the guide penalty
field_by : (guide short byte : ℕ) {outside : ℕ} {closed : Bool} → outside ≡ outside_field guide byte
    → (eqb (byte % 2) 1 || eqb outside closed_price) ≡ closed → cond closed closed_price (cond (holds 2 byte) short outside) ≡ extra_field guide short byte
unfolding extra_field holds
field_by guide short byte is test =
    let lowest : byte / 1 % 2 ≡ byte % 2 = omega arith in
    rw (lowest, ← is, test) refl

pub returns-then-byte-outside : goal.returns-then-byte-outside
returns-then-byte-outside c = field_by c.args.guide _ _ c.outside_field-outside.ensures c.if-byte-outside.true

pub returns-then-byte-eq1 : goal.returns-then-byte-eq1
unfolding holds
returns-then-byte-eq1 c =
    let args = c.args in
    rw (eq-eqb (args.byte / 2 % 2) 1 c.if-byte-eq1.true) at
    (field_by args.guide args.short args.byte c.outside_field-outside.ensures c.if-byte-outside.false)

pub returns-else-byte-eq1 : goal.returns-else-byte-eq1
unfolding holds
returns-else-byte-eq1 c =
    let args = c.args in
    rw (ne_eqb (args.byte / 2 % 2) 1 c.if-byte-eq1.false) at
    (field_by args.guide args.short args.byte c.outside_field-outside.ensures c.if-byte-outside.false)
