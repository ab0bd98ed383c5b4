-- `job::groups::head_group` meets its contract: the nine fields follow each other in the group's 80 bits.
use native.Mathlib.Numerals.{add-one}
use native.Mathlib.Omega.{arith}
use Rattle.job.specs.Reading.{head_at}
use Rattle.job.specs.Structs.{head_group}
use Rattle.job.proofs.Fields.{is_whole, is_cut, Left, all_left, past, room, value_below}
use Rattle.job.proofs.groups.head_group.Goals as goal

pub whole-requires : goal.whole-requires
whole-requires c = omega arith

pub returns-then-not-whole : goal.returns-then-not-whole
unfolding head_group
returns-then-not-whole c = rw (is_cut 80 _ _ c.whole.ensures c.if-not-whole.true)

pub field-edition-requires : goal.field-edition-requires
field-edition-requires c =
    let all : Left c.args.s.now 0 80 = all_left 80 (is_whole 80 _ _ c.whole.ensures c.if-not-whole.false) (omega arith) in
    room tt all

pub field-direction-requires : goal.field-direction-requires
field-direction-requires c =
    let all : Left c.args.s.now 0 80 = all_left 80 (is_whole 80 _ _ c.whole.ensures c.if-not-whole.false) (omega arith) in
    room tt (past 4 tt c.field-edition.ensures all)

pub field-layers-requires : goal.field-layers-requires
field-layers-requires c =
    let all : Left c.args.s.now 0 80 = all_left 80 (is_whole 80 _ _ c.whole.ensures c.if-not-whole.false) (omega arith) in
    let past_direction : Left c.args.s.now c.field-direction.result.next.at 75 = past 1 tt c.field-direction.ensures (past 4 tt c.field-edition.ensures all) in
    room tt past_direction

pub field-columns-requires : goal.field-columns-requires
field-columns-requires c =
    let all : Left c.args.s.now 0 80 = all_left 80 (is_whole 80 _ _ c.whole.ensures c.if-not-whole.false) (omega arith) in
    let past_direction : Left c.args.s.now c.field-direction.result.next.at 75 = past 1 tt c.field-direction.ensures (past 4 tt c.field-edition.ensures all) in
    room tt (past 3 tt c.field-layers.ensures past_direction)

pub field-rows-requires : goal.field-rows-requires
field-rows-requires c =
    let all : Left c.args.s.now 0 80 = all_left 80 (is_whole 80 _ _ c.whole.ensures c.if-not-whole.false) (omega arith) in
    let past_direction : Left c.args.s.now c.field-direction.result.next.at 75 = past 1 tt c.field-direction.ensures (past 4 tt c.field-edition.ensures all) in
    room tt (past 8 tt c.field-columns.ensures (past 3 tt c.field-layers.ensures past_direction))

pub field-guide-requires : goal.field-guide-requires
field-guide-requires c =
    let all : Left c.args.s.now 0 80 = all_left 80 (is_whole 80 _ _ c.whole.ensures c.if-not-whole.false) (omega arith) in
    let past_direction : Left c.args.s.now c.field-direction.result.next.at 75 = past 1 tt c.field-direction.ensures (past 4 tt c.field-edition.ensures all) in
    let past_grid : Left c.args.s.now c.field-rows.result.next.at 56 = past 8 tt c.field-rows.ensures (past 8 tt c.field-columns.ensures (past 3 tt c.field-layers.ensures past_direction)) in
    room tt past_grid

pub field-short-requires : goal.field-short-requires
field-short-requires c =
    let all : Left c.args.s.now 0 80 = all_left 80 (is_whole 80 _ _ c.whole.ensures c.if-not-whole.false) (omega arith) in
    let past_direction : Left c.args.s.now c.field-direction.result.next.at 75 = past 1 tt c.field-direction.ensures (past 4 tt c.field-edition.ensures all) in
    let past_grid : Left c.args.s.now c.field-rows.result.next.at 56 = past 8 tt c.field-rows.ensures (past 8 tt c.field-columns.ensures (past 3 tt c.field-layers.ensures past_direction)) in
    room tt (past 16 tt c.field-guide.ensures past_grid)

pub field-nets-requires : goal.field-nets-requires
field-nets-requires c =
    let all : Left c.args.s.now 0 80 = all_left 80 (is_whole 80 _ _ c.whole.ensures c.if-not-whole.false) (omega arith) in
    let past_direction : Left c.args.s.now c.field-direction.result.next.at 75 = past 1 tt c.field-direction.ensures (past 4 tt c.field-edition.ensures all) in
    let past_grid : Left c.args.s.now c.field-rows.result.next.at 56 = past 8 tt c.field-rows.ensures (past 8 tt c.field-columns.ensures (past 3 tt c.field-layers.ensures past_direction)) in
    let past_penalties : Left c.args.s.now c.field-short.result.next.at 24 = past 16 tt c.field-short.ensures (past 16 tt c.field-guide.ensures past_grid) in
    room tt past_penalties

pub field-obstacles-requires : goal.field-obstacles-requires
field-obstacles-requires c =
    let all : Left c.args.s.now 0 80 = all_left 80 (is_whole 80 _ _ c.whole.ensures c.if-not-whole.false) (omega arith) in
    let past_direction : Left c.args.s.now c.field-direction.result.next.at 75 = past 1 tt c.field-direction.ensures (past 4 tt c.field-edition.ensures all) in
    let past_grid : Left c.args.s.now c.field-rows.result.next.at 56 = past 8 tt c.field-rows.ensures (past 8 tt c.field-columns.ensures (past 3 tt c.field-layers.ensures past_direction)) in
    let past_penalties : Left c.args.s.now c.field-short.result.next.at 24 = past 16 tt c.field-short.ensures (past 16 tt c.field-guide.ensures past_grid) in
    room tt (past 8 tt c.field-nets.ensures past_penalties)

pub overflow_add-grid : goal.overflow_add-grid
overflow_add-grid c = omega (arith, value_below _ _ 3 c.field-layers.ensures)

pub overflow_add-grid-2 : goal.overflow_add-grid-2
overflow_add-grid-2 c = omega (arith, value_below _ _ 8 c.field-columns.ensures)

pub overflow_add-grid-3 : goal.overflow_add-grid-3
overflow_add-grid-3 c = omega (arith, value_below _ _ 8 c.field-rows.ensures)

pub returns : goal.returns
unfolding head_group head_at
returns c =
    rw (
      is_whole 80 _ _ c.whole.ensures c.if-not-whole.false,
      c.field-obstacles.ensures,
      c.field-nets.ensures,
      c.field-short.ensures,
      c.field-guide.ensures,
      c.field-rows.ensures,
      c.field-columns.ensures,
      c.field-layers.ensures,
      c.field-direction.ensures,
      c.field-edition.ensures,
    )
    (simp add-one)
