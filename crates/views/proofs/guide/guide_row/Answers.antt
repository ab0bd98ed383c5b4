-- `views::guide::guide_row` meets its contract.
use native.Mathlib.Omega.{arith}
use Rattle.job.specs.Structs.{grid_of}
use Rattle.job.proofs.Grids.{Below}
use Rattle.rules.proofs.Vertices.{vertex_below}
use Rattle.views.proofs.Axes.{found_begin, found_end}
use Rattle.views.proofs.Rows.{row_number, row_turn}
use Rattle.views.proofs.guide.guide_row.Goals as goal

pub loop-column-init : goal.loop-column-init
loop-column-init c = found_begin _ _ _ _

pub number-v-requires : goal.number-v-requires
number-v-requires c =
    let pre = c.requires in
    let small = pre.0.small in
    (small, record { layer = omega (arith, small.layers, pre.2); row = omega (arith, small.rows, pre.3); column = omega (arith, small.columns) })

pub bounds-seen-v : goal.bounds-seen-v
bounds-seen-v c =
    let below : (let args = c.args in
    Below (grid_of args.grid) (record { layer = args.layer; row = args.row; column = c.loop-column.column })) = let pre = c.requires in record { layer = pre.2; row = pre.3; column = c.loop-column-test.true } in
    omega (arith, row_number _ _ _ _ below c.number-v.ensures)

pub bounds-seen-v-in-loop-column : goal.bounds-seen-v-in-loop-column
bounds-seen-v-in-loop-column c =
    let below : (let args = c.args in
    Below (grid_of args.grid) (record { layer = args.layer; row = args.row; column = c.loop-column.column })) = let pre = c.requires in record { layer = pre.2; row = pre.3; column = c.loop-column-test.true } in
    omega (arith, row_number _ _ _ _ below c.number-v.ensures)

pub loop-column-preserved : goal.loop-column-preserved
loop-column-preserved c =
    let below : (let args = c.args in
    Below (grid_of args.grid) (record { layer = args.layer; row = args.row; column = c.loop-column.column })) = let pre = c.requires in record { layer = pre.2; row = pre.3; column = c.loop-column-test.true } in
    row_turn _ _ _ _ c.loop-column.invariant below (omega arith) c.number-v.ensures c.in_box-inside.ensures c.guided_byte.ensures

pub shape_of-seen : goal.shape_of-seen
shape_of-seen c = c.loop-column.invariant.size

pub returns : goal.returns
returns c = found_end _ _ _ c.loop-column.invariant (λ v on. omega (arith, c.loop-column-test.false, (vertex_below _ on).column))
