-- `job::groups::obstacle_group` meets its contract: the four fields follow each other in the group's 27 bits.
use native.Mathlib.Nat.{add_assoc}
use native.Mathlib.Numerals.{add-one}
use native.Mathlib.Omega.{arith}
use Rattle.job.specs.Reading.{obstacle_at, vertex_at}
use Rattle.job.specs.Structs.{obstacle_group}
use Rattle.job.proofs.Fields.{is_whole, is_cut, Left, all_left, past, room, value_below}
use Rattle.job.proofs.groups.obstacle_group.Goals as goal

pub returns-then-not-whole : goal.returns-then-not-whole
unfolding obstacle_group
returns-then-not-whole c = rw (is_cut 27 _ _ c.whole.ensures c.if-not-whole.true)

pub field-layer-requires : goal.field-layer-requires
field-layer-requires c =
    let all : (let args = c.args in Left args.s.now args.at 27) = all_left 27 (is_whole 27 _ _ c.whole.ensures c.if-not-whole.false) (omega arith) in
    room tt all

pub field-row-requires : goal.field-row-requires
field-row-requires c =
    let all : (let args = c.args in Left args.s.now args.at 27) = all_left 27 (is_whole 27 _ _ c.whole.ensures c.if-not-whole.false) (omega arith) in
    room tt (past 3 tt c.field-layer.ensures all)

pub field-column-requires : goal.field-column-requires
field-column-requires c =
    let all : (let args = c.args in Left args.s.now args.at 27) = all_left 27 (is_whole 27 _ _ c.whole.ensures c.if-not-whole.false) (omega arith) in
    let past_row : Left c.args.s.now c.field-row.result.next.at 16 = past 8 tt c.field-row.ensures (past 3 tt c.field-layer.ensures all) in
    room tt past_row

pub field-run-requires : goal.field-run-requires
field-run-requires c =
    let all : (let args = c.args in Left args.s.now args.at 27) = all_left 27 (is_whole 27 _ _ c.whole.ensures c.if-not-whole.false) (omega arith) in
    let past_row : Left c.args.s.now c.field-row.result.next.at 16 = past 8 tt c.field-row.ensures (past 3 tt c.field-layer.ensures all) in
    room tt (past 8 tt c.field-column.ensures past_row)

pub overflow_add-result : goal.overflow_add-result
overflow_add-result c = omega (arith, value_below _ _ 8 c.field-run.ensures)

pub returns : goal.returns
unfolding obstacle_group obstacle_at vertex_at
returns c =
    rw (
      is_whole 27 _ _ c.whole.ensures c.if-not-whole.false,
      c.field-run.ensures,
      c.field-column.ensures,
      c.field-row.ensures,
      c.field-layer.ensures,
    )
    (simp (add_assoc, add-one))
