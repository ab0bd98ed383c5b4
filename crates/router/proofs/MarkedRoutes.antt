-- The marked routes over routing's outcome, from the theorem about the definitions.
--     marked_routing     the theorem
use mathlib.Core.Path.{◌≡◌, ap}
use mathlib.Core.List.{List, [], ◌∷◌}
use Rattle.job.specs.Lists.{All}
use Rattle.plan.specs.Layout.{plan_bytes, plan_of}
use Rattle.marked.specs.Table.{Row, Right, rows}
use Rattle.marked.proofs.Marked.{marked}
use Rattle.router.specs.Marked.{row_plan, RowRoutes, MarkedRouting}
use Rattle.router.proofs.Holding.{has_room}
use Rattle.router.proofs.Promises.{room_routes}

-- a row that is right routes to its records
row_routes : (row : Row) → Right row → RowRoutes row
unfolding plan_of
row_routes row right map work plan vertices need enough =
    let same : plan_of row.job ≡ row_plan row = ap (plan_bytes row.job.grid) right.routed in
    let (done, stands) = room_routes row.bytes map work plan row.job (has_room row.bytes map work right.read vertices need) (rw same enough) in
    (done, rw (← same) stands)

-- so do all of a list
all_route : (rs : List Row) → All Right rs → All RowRoutes rs
unfolding All
all_route [] right = tt
all_route (row ∷ rs) right = (row_routes row right.0, all_route rs right.1)

-- every marked job routes to its records
pub marked_routing : MarkedRouting
marked_routing = all_route rows marked.routes
