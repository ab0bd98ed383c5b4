-- `replay::net::read_flag` meets its contract.
use mathlib.Core.Path.{refl, ap}
use native.Mathlib.Omega.{arith}
use Rattle.bits.specs.declared.FieldRead.{FieldRead}
use Rattle.job.specs.Reading.{◌>>◌, rule}
use Rattle.job.proofs.Fields.{is_whole, is_cut, all_left, room}
use Rattle.replay.specs.Structs.{flag_of}
use Rattle.replay.proofs.net.read_flag.Goals as goal

pub returns-then-not-whole : goal.returns-then-not-whole
unfolding flag_of rule ◌>>◌
returns-then-not-whole c = rw (c.at.ensures, is_cut 1 _ _ c.whole.ensures c.if-not-whole.true) refl

pub field-flag-requires : goal.field-flag-requires
field-flag-requires c = room tt (all_left 1 (is_whole 1 _ _ c.whole.ensures c.if-not-whole.false) (omega (arith, c.requires)))

pub returns : goal.returns
unfolding flag_of rule ◌>>◌
returns c =
    rw (is_whole 1 _ _ c.whole.ensures c.if-not-whole.false, ap (λ (t : FieldRead). t.value) c.field-flag.ensures) refl
