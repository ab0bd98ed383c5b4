-- The marked routes over routing's outcome.
--     RowRoutes         what is claimed of a row
--     MarkedRouting     the claim, over the whole table
use Rattle.std.specs.Prelude.{ℕ, ◌≤◌, ◌≡◌, List, length}
use Rattle.job.specs.Lists.{All}
use Rattle.job.specs.Grid.{vertices}
use Rattle.plan.specs.Layout.{plan_bytes}
use Rattle.marked.specs.Table.{Row, rows}
use Rattle.router.specs.Room.{work_need}
use Rattle.router.specs.Routing.{routing_of, plan_in}

-- the bytes of the row's records
abbrev pub row_plan : Row → List ℕ
row_plan row = plan_bytes row.job.grid row.records

-- routing the row's bytes, with slices that are long enough, is not refused, and its plan is the bytes of the
-- row's records
abbrev pub RowRoutes : Row → Type 0
RowRoutes row =
    (map work plan : List ℕ) → vertices row.job.grid ≤ length map → work_need row.job ≤ length work → length (row_plan row) ≤ length plan
    → ((routing_of row.bytes map work plan).result.refusal ≡ 0) × (plan_in (routing_of row.bytes map work plan) ≡ row_plan row)

-- all rows of the table
abbrev pub MarkedRouting : Type 0
MarkedRouting = All RowRoutes rows
