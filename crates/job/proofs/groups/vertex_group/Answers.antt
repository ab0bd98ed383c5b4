-- `job::groups::vertex_group` meets its contract: the three fields follow each other in the group's 19 bits.
use native.Mathlib.Nat.{add_assoc}
use native.Mathlib.Omega.{arith}
use Rattle.job.specs.Reading.{vertex_at}
use Rattle.job.specs.Structs.{vertex_group}
use Rattle.job.proofs.Fields.{is_whole, is_cut, Left, all_left, past, room}
use Rattle.job.proofs.groups.vertex_group.Goals as goal

pub returns-then-not-whole : goal.returns-then-not-whole
unfolding vertex_group
returns-then-not-whole c = rw (is_cut 19 _ _ c.whole.ensures c.if-not-whole.true)

pub field-layer-requires : goal.field-layer-requires
field-layer-requires c =
    let all : (let args = c.args in Left args.s.now args.at 19) = all_left 19 (is_whole 19 _ _ c.whole.ensures c.if-not-whole.false) (omega arith) in
    room tt all

pub field-row-requires : goal.field-row-requires
field-row-requires c =
    let all : (let args = c.args in Left args.s.now args.at 19) = all_left 19 (is_whole 19 _ _ c.whole.ensures c.if-not-whole.false) (omega arith) in
    room tt (past 3 tt c.field-layer.ensures all)

pub field-column-requires : goal.field-column-requires
field-column-requires c =
    let all : (let args = c.args in Left args.s.now args.at 19) = all_left 19 (is_whole 19 _ _ c.whole.ensures c.if-not-whole.false) (omega arith) in
    room tt (past 8 tt c.field-row.ensures (past 3 tt c.field-layer.ensures all))

pub returns : goal.returns
unfolding vertex_group vertex_at
returns c =
    rw (
      is_whole 19 _ _ c.whole.ensures c.if-not-whole.false,
      c.field-column.ensures,
      c.field-row.ensures,
      c.field-layer.ensures,
    )
    (simp add_assoc)
