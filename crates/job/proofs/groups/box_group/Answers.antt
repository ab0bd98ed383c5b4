-- `job::groups::box_group` meets its contract: the six fields follow each other in the group's 38 bits.
use native.Mathlib.Nat.{add_assoc}
use native.Mathlib.Omega.{arith}
use Rattle.job.specs.Reading.{box_at}
use Rattle.job.specs.Structs.{box_group}
use Rattle.job.proofs.Fields.{is_whole, is_cut, Left, all_left, past, room, value_below}
use Rattle.job.proofs.groups.box_group.Goals as goal

pub returns-then-not-whole : goal.returns-then-not-whole
unfolding box_group
returns-then-not-whole c = rw (is_cut 38 _ _ c.whole.ensures c.if-not-whole.true)

pub field-layer_low-requires : goal.field-layer_low-requires
field-layer_low-requires c =
    let all : (let args = c.args in Left args.s.now args.at 38) = all_left 38 (is_whole 38 _ _ c.whole.ensures c.if-not-whole.false) (omega arith) in
    room tt all

pub field-layer_high-requires : goal.field-layer_high-requires
field-layer_high-requires c =
    let all : (let args = c.args in Left args.s.now args.at 38) = all_left 38 (is_whole 38 _ _ c.whole.ensures c.if-not-whole.false) (omega arith) in
    room tt (past 3 tt c.field-layer_low.ensures all)

pub field-row_low-requires : goal.field-row_low-requires
field-row_low-requires c =
    let all : (let args = c.args in Left args.s.now args.at 38) = all_left 38 (is_whole 38 _ _ c.whole.ensures c.if-not-whole.false) (omega arith) in
    let past_layers : Left c.args.s.now c.field-layer_high.result.next.at 32 = past 3 tt c.field-layer_high.ensures (past 3 tt c.field-layer_low.ensures all) in
    room tt past_layers

pub field-row_high-requires : goal.field-row_high-requires
field-row_high-requires c =
    let all : (let args = c.args in Left args.s.now args.at 38) = all_left 38 (is_whole 38 _ _ c.whole.ensures c.if-not-whole.false) (omega arith) in
    let past_layers : Left c.args.s.now c.field-layer_high.result.next.at 32 = past 3 tt c.field-layer_high.ensures (past 3 tt c.field-layer_low.ensures all) in
    room tt (past 8 tt c.field-row_low.ensures past_layers)

pub field-column_low-requires : goal.field-column_low-requires
field-column_low-requires c =
    let all : (let args = c.args in Left args.s.now args.at 38) = all_left 38 (is_whole 38 _ _ c.whole.ensures c.if-not-whole.false) (omega arith) in
    let past_layers : Left c.args.s.now c.field-layer_high.result.next.at 32 = past 3 tt c.field-layer_high.ensures (past 3 tt c.field-layer_low.ensures all) in
    let past_rows : Left c.args.s.now c.field-row_high.result.next.at 16 = past 8 tt c.field-row_high.ensures (past 8 tt c.field-row_low.ensures past_layers) in
    room tt past_rows

pub field-column_high-requires : goal.field-column_high-requires
field-column_high-requires c =
    let all : (let args = c.args in Left args.s.now args.at 38) = all_left 38 (is_whole 38 _ _ c.whole.ensures c.if-not-whole.false) (omega arith) in
    let past_layers : Left c.args.s.now c.field-layer_high.result.next.at 32 = past 3 tt c.field-layer_high.ensures (past 3 tt c.field-layer_low.ensures all) in
    let past_rows : Left c.args.s.now c.field-row_high.result.next.at 16 = past 8 tt c.field-row_high.ensures (past 8 tt c.field-row_low.ensures past_layers) in
    room tt (past 8 tt c.field-column_low.ensures past_rows)

-- each end fits a byte
pub overflow_cast-layers : goal.overflow_cast-layers
overflow_cast-layers c = omega (arith, value_below _ _ 3 c.field-layer_low.ensures)

pub overflow_cast-layers-2 : goal.overflow_cast-layers-2
overflow_cast-layers-2 c = omega (arith, value_below _ _ 3 c.field-layer_high.ensures)

pub overflow_cast-rows : goal.overflow_cast-rows
overflow_cast-rows c = omega (arith, value_below _ _ 8 c.field-row_low.ensures)

pub overflow_cast-rows-2 : goal.overflow_cast-rows-2
overflow_cast-rows-2 c = omega (arith, value_below _ _ 8 c.field-row_high.ensures)

pub overflow_cast-columns : goal.overflow_cast-columns
overflow_cast-columns c = omega (arith, value_below _ _ 8 c.field-column_low.ensures)

pub overflow_cast-columns-2 : goal.overflow_cast-columns-2
overflow_cast-columns-2 c = omega (arith, value_below _ _ 8 c.field-column_high.ensures)

pub returns : goal.returns
unfolding box_group box_at
returns c =
    rw (
      is_whole 38 _ _ c.whole.ensures c.if-not-whole.false,
      c.field-column_high.ensures,
      c.field-column_low.ensures,
      c.field-row_high.ensures,
      c.field-row_low.ensures,
      c.field-layer_high.ensures,
      c.field-layer_low.ensures,
    )
    (simp add_assoc)
