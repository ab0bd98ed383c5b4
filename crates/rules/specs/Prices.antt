-- The price of entering a vertex, in its parts.
-- Specification: section 2.3.
--     Tech                        what a job says of its layers: the grid, the layer lines and the two
--                                 penalties
--     penalty                     a penalty where it applies; the closed one forbids
--     closing                     a penalty in whose place another is added
--     base, guide_at, short_at    the parts of the price of entering
--     entering                    their sum
use Rattle.std.specs.Prelude.{ℕ, List, Bool, cond, not, get_or, eqb}
use Rattle.job.specs.Grid.{Grid}
use Rattle.job.specs.Job.{Layer, Job, closed_price}
use Rattle.paths.specs.Costs.{Cost, fin, inf, plus}
use Rattle.rules.specs.Tracks.{layer_of}
use Rattle.rules.specs.Segments.{along, down, up, kind_of}
use Rattle.rules.specs.Views.{View}

pub record Tech : Type 0 where
  pub grid : Grid
  pub lines : List Layer
  pub guide : ℕ
  pub short : ℕ

unfoldable pub tech_of : Job → Tech
tech_of j = record { grid = j.grid; lines = j.lines; guide = j.guide; short = j.short }

-- the layer line of a vertex
unfoldable pub line_of : Tech → (v : ℕ) → Layer
line_of t v = get_or t.lines (layer_of t.grid v) (record { wire = 0; via = 0; min_length = 0; area = 0 })

-- "In each penalty the closed price forbids what it prices."
unfoldable pub charge : (penalty : ℕ) → Cost
charge p = cond (eqb p closed_price) inf (fin p)

unfoldable pub penalty : (applies : Bool) → (penalty : ℕ) → Cost
penalty applies p = cond applies (charge p) (fin 0)

-- "the wire price of its layer, or the via price": a via between two layers is priced by the lower one's line
unfoldable pub base : Tech → (from into move : ℕ) → ℕ
base t from into move = elim (kind_of move) [ along d ↦ (line_of t into).wire | down ↦ (line_of t into).via | up ↦ (line_of t from).via ]

-- a penalty in whose place another is added: nothing, but the closed one forbids
unfoldable pub closing : Cost → Cost
closing (fin n) = fin 0
closing inf = inf

-- "plus the guide penalty if v lies in none of the net's boxes"; but if v is taken too, "only the short
-- penalty is added. A closed guide penalty still closes the vertex."
unfoldable pub guide_at : Tech → View → (v : ℕ) → Cost
guide_at t view v = let outside = penalty (not (view.guided v)) t.guide in cond (view.taken v) (closing outside) outside

-- "plus the short penalty if v is taken"
unfoldable pub short_at : Tech → View → (v : ℕ) → Cost
short_at t view v = penalty (view.taken v) t.short

-- forbidden where either is
unfoldable pub sum_cost : Cost → Cost → Cost
sum_cost (fin n) c = plus n c
sum_cost inf c = inf

-- "Entering v costs"
unfoldable pub entering : Tech → View → (from into move : ℕ) → Cost
entering t view from into move = plus (base t from into move) (sum_cost (guide_at t view into) (short_at t view into))
