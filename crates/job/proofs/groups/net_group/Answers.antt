-- `job::groups::net_group` meets its contract: the two fields follow each other in the group's 8 bits.
use Prim.Native.Nat.{ℕ}
use mathlib.Core.Path.{◌≡◌, refl}
use native.Mathlib.Omega.{arith}
use Rattle.std.proofs.Common.{Option, Some}
use Rattle.job.specs.Structs.{net_group}
use Rattle.job.specs.declared.groups.NetHead.{NetHead}
use Rattle.job.proofs.Fields.{is_whole, is_cut, Left, all_left, past, room, value_below}
use Rattle.job.proofs.groups.net_group.Goals as goal

pub returns-then-not-whole : goal.returns-then-not-whole
unfolding net_group
returns-then-not-whole c = rw (is_cut 8 _ _ c.whole.ensures c.if-not-whole.true)

pub field-pins-requires : goal.field-pins-requires
field-pins-requires c =
    let all : (let args = c.args in Left args.s.now args.at 8) = all_left 8 (is_whole 8 _ _ c.whole.ensures c.if-not-whole.false) (omega arith) in
    room tt all

pub field-boxes-requires : goal.field-boxes-requires
field-boxes-requires c =
    let all : (let args = c.args in Left args.s.now args.at 8) = all_left 8 (is_whole 8 _ _ c.whole.ensures c.if-not-whole.false) (omega arith) in
    room tt (past 4 tt c.field-pins.ensures all)

pub overflow_add-result : goal.overflow_add-result
overflow_add-result c = omega (arith, value_below _ _ 4 c.field-pins.ensures)

-- heads that count as many pins are the same
as_many : {m n boxes : ℕ} → m ≡ n → ◌≡◌ {A = Option NetHead} (Some (record { pins = m; boxes = boxes })) (Some (record { pins = n; boxes = boxes }))
as_many e = rw e refl

pub returns : goal.returns
unfolding net_group
returns c =
    rw (
      is_whole 8 _ _ c.whole.ensures c.if-not-whole.false,
      c.field-boxes.ensures,
      c.field-pins.ensures,
    )
    (as_many (omega arith))
