-- `job::groups::layer_group` meets its contract: the four fields follow each other in the group's 40 bits.
use native.Mathlib.Nat.{add_assoc}
use native.Mathlib.Omega.{arith}
use Rattle.job.specs.Reading.{layer_at}
use Rattle.job.specs.Structs.{layer_group}
use Rattle.job.proofs.Fields.{is_whole, is_cut, Left, all_left, past, room}
use Rattle.job.proofs.groups.layer_group.Goals as goal

pub returns-then-not-whole : goal.returns-then-not-whole
unfolding layer_group
returns-then-not-whole c = rw (is_cut 40 _ _ c.whole.ensures c.if-not-whole.true)

pub field-wire-requires : goal.field-wire-requires
field-wire-requires c =
    let all : (let args = c.args in Left args.s.now args.at 40) = all_left 40 (is_whole 40 _ _ c.whole.ensures c.if-not-whole.false) (omega arith) in
    room tt all

pub field-via-requires : goal.field-via-requires
field-via-requires c =
    let all : (let args = c.args in Left args.s.now args.at 40) = all_left 40 (is_whole 40 _ _ c.whole.ensures c.if-not-whole.false) (omega arith) in
    room tt (past 10 tt c.field-wire.ensures all)

pub field-least-requires : goal.field-least-requires
field-least-requires c =
    let all : (let args = c.args in Left args.s.now args.at 40) = all_left 40 (is_whole 40 _ _ c.whole.ensures c.if-not-whole.false) (omega arith) in
    let past_prices : Left c.args.s.now c.field-via.result.next.at 20 = past 10 tt c.field-via.ensures (past 10 tt c.field-wire.ensures all) in
    room tt past_prices

pub field-area-requires : goal.field-area-requires
field-area-requires c =
    let all : (let args = c.args in Left args.s.now args.at 40) = all_left 40 (is_whole 40 _ _ c.whole.ensures c.if-not-whole.false) (omega arith) in
    let past_prices : Left c.args.s.now c.field-via.result.next.at 20 = past 10 tt c.field-via.ensures (past 10 tt c.field-wire.ensures all) in
    room tt (past 4 tt c.field-least.ensures past_prices)

pub returns : goal.returns
unfolding layer_group layer_at
returns c =
    rw (
      is_whole 40 _ _ c.whole.ensures c.if-not-whole.false,
      c.field-area.ensures,
      c.field-least.ensures,
      c.field-via.ensures,
      c.field-wire.ensures,
    )
    (simp add_assoc)
