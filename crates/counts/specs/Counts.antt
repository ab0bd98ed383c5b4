-- The wire report: what is counted of a plan, layer by layer.
-- Specification: section 6.5.
--     kinds, steps, vias, ..        the kinds of counts of a layer
--     Count, count, counted         so many of a kind, and a report with counts added
--     move_counts, walk_counts      of a move, and of the moves of a join
--     record_counts, plan_counts    of a record, and of a plan
--     count_prices, worth           what each costs by the job's prices, and all of them
use Rattle.std.specs.Prelude.{ℕ, ◌+◌, ◌*◌, Bool, cond, not, ◌&&◌, get_or, set, ltb}
use mathlib.Core.List.{List, [], ◌∷◌, ◌++◌, flat_map}
use Rattle.job.specs.Grid.{Grid}
use Rattle.job.specs.Job.{Layer, Job}
use Rattle.rules.specs.Tracks.{layer_of}
use Rattle.rules.specs.Views.{View, view_of}
use Rattle.rules.specs.Prices.{Tech, tech_of}
use Rattle.rules.specs.Steps.{Made}
use Rattle.rules.specs.Walks.{start_at, Walked, stuck, walked, walk}
use Rattle.rules.specs.Joins.{Record, join, none}
use Rattle.rules.specs.Routings.{Entry}

-- ---- a report

-- "layer by layer in this order: wire steps, vias to the layer above passed either way, added steps,
-- penalised segments, guide and short entries"
abbrev pub kinds : ℕ
kinds = 6

abbrev pub steps : ℕ
steps = 0

abbrev pub vias : ℕ
vias = 1

abbrev pub added_steps : ℕ
added_steps = 2

abbrev pub penalised : ℕ
penalised = 3

abbrev pub guide_entries : ℕ
guide_entries = 4

abbrev pub short_entries : ℕ
short_entries = 5

-- "its 48 counts for eight layers"
abbrev pub report_need : ℕ
report_need = 8 * kinds

-- so many, at a place of the report
pub record Count : Type 0 where
  pub at : ℕ
  pub many : ℕ

abbrev pub count : (layer kind many : ℕ) → Count
count layer kind many = record { at = kinds * layer + kind; many = many }

-- a report with counts added
unfoldable pub counted : List Count → (report : List ℕ) → List ℕ
counted [] report = report
counted (c ∷ cs) report = counted cs (set report c.at (get_or report c.at 0 + c.many))

-- ---- what is counted

-- one where a test holds
unfoldable pub one_if : Bool → ℕ
one_if holds = cond holds 1 0

-- a via to the layer above or from it, at the lower of the two; or a step on a layer
unfoldable pub way_count : (left entered : ℕ) → Count
way_count left entered =
    cond (ltb left entered) (count left vias 1) (cond (ltb entered left) (count entered vias 1) (count entered steps 1))

-- added steps and penalised segments are of the layer left, "guide and short entries (by the layer entered)".
-- A vertex that is outside the guide and taken: "The wire report counts such an entry as a short entry only."
unfoldable pub move_counts : Grid → View → (from : ℕ) → Made → List Count
move_counts g view v made =
    let w = made.next.vertex in
    let left = layer_of g v in
    let entered = layer_of g w in
    way_count left entered ∷ count left added_steps made.added ∷ count left penalised made.penalties
    ∷ count entered guide_entries (one_if (not (view.guided w) && not (view.taken w)))
    ∷ count entered short_entries (one_if (view.taken w)) ∷ []

-- of moves from a vertex, one after the other
unfoldable pub walk_counts : Grid → View → (from : ℕ) → List Made → List Count
walk_counts g view v [] = []
walk_counts g view v (made ∷ rest) = move_counts g view v made ++ walk_counts g view made.next.vertex rest

unfoldable pub walked_counts : Grid → View → (start : ℕ) → Walked → List Count
walked_counts g view start stuck = []
walked_counts g view start (walked last made) = walk_counts g view start made

-- of a record's moves; none makes no move
unfoldable pub record_counts : Tech → View → Record → List Count
record_counts t view none = []
record_counts t view (join start moves cost) = walked_counts t.grid view start (walk t view (start_at start) moves)

-- of an entry, against what stood before it
abbrev pub entry_counts : Job → Entry → List Count
entry_counts j e = record_counts (tech_of j) (view_of j e.net e.before.metal) e.written

abbrev pub plan_counts : Job → List Entry → List Count
plan_counts j = flat_map (entry_counts j)

-- ---- what it costs

-- the prices of a layer's counts, in their order
abbrev pub count_prices : Tech → Layer → List ℕ
count_prices t line = line.wire ∷ line.via ∷ line.wire ∷ line.area ∷ t.guide ∷ t.short ∷ []

abbrev pub report_prices : Tech → List ℕ
report_prices t = flat_map (count_prices t) t.lines

-- "counts times that job's prices"
unfoldable pub worth : (prices report : List ℕ) → ℕ
worth [] report = 0
worth (p ∷ ps) [] = 0
worth (p ∷ ps) (n ∷ ns) = n * p + worth ps ns
