-- The forms in which the code holds vertices and moves.
use Rattle.std.specs.Prelude.{ℕ, zero, suc, ◌+◌, ◌-◌, ◌*◌, ◌<◌, min, ◌≡◌, List, [], ◌∷◌, ◌++◌, true, false, cond, length, get_or, Option, Some, None}
use Rattle.job.specs.Grid.{Grid, Vertex, vertices, steps_column, stride_of}
use Rattle.job.specs.Job.{Layer, largest_min_length}
use Rattle.job.specs.Structs.{Small, Sized, grid_of, no_line}
use Rattle.paths.specs.Systems.{Step, blocked, to}
use Rattle.paths.specs.Costs.{Cost, fin, inf}
use Rattle.rules.specs.Prices.{Tech, entering}
use Rattle.rules.specs.Places.{GoodTech}
use Rattle.job.specs.declared.groups.Layer.{Layer as LayerStruct}
use Rattle.job.specs.declared.penalty.Penalty.{Penalty}
use Rattle.job.specs.declared.penalty.Penalty.TheVariants.{Closed, Price}
use Rattle.rules.specs.declared.price.Tech.{Tech as TechStruct}
use Rattle.rules.specs.Tracks.{layer_of, track_index, track_length, Entered, outside, at, entered}
use Rattle.rules.specs.Views.{View}
use Rattle.rules.specs.Segments.{Direction, low, high, opposite, Kind, along, down, up, Segment, fresh, running, paid, paid_toward, Place, Grown, back, grown}
use Rattle.rules.specs.Overheads.{clear_run, first_of, Overhead, forbidden, owes, overhead_of}
use Rattle.rules.specs.declared.segment.Direction.{Direction as DirectionEnum}
use Rattle.rules.specs.declared.segment.Direction.TheVariants.{Low, High}
use Rattle.rules.specs.declared.segment.Segment.{Segment as SegmentEnum}
use Rattle.rules.specs.declared.segment.Segment.TheVariants.{Fresh, Running, Paid, PaidToward}
use Rattle.rules.specs.Steps.{Made, Stepped, illegal, legal}
use Rattle.rules.specs.declared.step.Place.{Place as PlaceStruct}
use Rattle.rules.specs.declared.step.Made.{Made as MadeStruct}
use Rattle.rules.specs.declared.step.Entry.{Entry}
use Rattle.rules.specs.declared.track.Kind.{Kind as KindEnum}
use Rattle.rules.specs.declared.track.Kind.TheVariants.{Along, Down, Up}
use Rattle.rules.specs.declared.overhead.Extension.{Extension as ExtensionStruct}
use Rattle.rules.specs.declared.overhead.Overhead.{Overhead as OverheadEnum}
use Rattle.rules.specs.declared.overhead.Overhead.TheVariants.{Nothing, Lengthened, Penalised, Forbidden}
use Rattle.rules.specs.declared.track.Track.{Track}
use Rattle.rules.specs.declared.end.End.{End as EndStruct}
use Rattle.job.specs.declared.grid.Grid.{Grid as GridStruct}
use Rattle.rules.specs.Seen.{view_by}

-- a vertex of a small grid
pub record OnGrid (g : GridStruct) (v : ℕ) : Type 0 where
  pub small : Small g
  pub there : v < vertices (grid_of g)

unfoldable pub entered_of : Entered → Option ℕ
entered_of outside = None
entered_of (at w) = Some w

-- a step on the vertex's layer changes this, its column or its row
abbrev pub index_on : Grid → Vertex → ℕ
index_on g x = cond (steps_column g x.layer) x.column x.row

-- how long a layer's tracks are
abbrev pub length_on : Grid → (layer : ℕ) → ℕ
length_on g layer = cond (steps_column g layer) g.columns g.rows

-- where a vertex lies on its track, the track's length, and what a step high adds to a vertex number
abbrev pub track_of : Grid → Vertex → Track
track_of g v =
    record {
      index = index_on g v;
      length = length_on g v.layer;
      stride = stride_of g v.layer;
    }

-- how many steps a track goes on in a direction
unfoldable pub room_in : Track → Direction → ℕ
room_in t low = t.index
room_in t high = t.length - 1 - t.index

-- the next vertex in a direction
unfoldable pub next_on : (stride : ℕ) → Direction → (v : ℕ) → ℕ
next_on stride low v = v - stride
next_on stride high v = v + stride

-- how many steps its track goes on from a vertex in a direction
unfoldable pub room_toward : Grid → Direction → (v : ℕ) → ℕ
room_toward g low v = track_index g v
room_toward g high v = track_length g v - 1 - track_index g v

-- ---- segments

unfoldable pub direction_of : DirectionEnum → Direction
direction_of Low = low
direction_of High = high

unfoldable pub kind_by : KindEnum → Kind
kind_by (Along d) = along (direction_of d)
kind_by Down = down
kind_by Up = up

-- a move to another layer
unfoldable pub Via : Kind → Type 0
Via (along d) = ⊥
Via down = Unit
Via up = Unit

unfoldable pub opposite_to : DirectionEnum → DirectionEnum
opposite_to Low = High
opposite_to High = Low

-- the ends of a segment whose last vertex is v: the leaving end, which is lengthened first, and the starting
-- end
unfoldable pub leaving_end : Track → (v : ℕ) → DirectionEnum → EndStruct
leaving_end t v d = record { vertex = v; toward = d; room = room_in t (direction_of d) }

unfoldable pub starting_end : Track → (v : ℕ) → DirectionEnum → (length : ℕ) → EndStruct
starting_end t v d n =
    let back = direction_of (opposite_to d) in
    let steps = min n (room_in t back) in
    record { vertex = next_on (steps * t.stride) back v; toward = opposite_to d; room = room_in t back - steps }

-- an end on a track of a grid, with the track's stride
pub record EndOn (g : Grid) (stride : ℕ) (e : EndStruct) : Type 0 where
  pub on_grid : e.vertex < vertices g
  pub step : stride_of g (layer_of g e.vertex) ≡ stride
  pub room : e.room ≡ room_toward g (direction_of e.toward) e.vertex

unfoldable pub segment_of : SegmentEnum → Segment
segment_of Fresh = fresh
segment_of (Running d n) = running (direction_of d) n
segment_of Paid = paid
segment_of (PaidToward d) = paid_toward (direction_of d)

-- where a segment that owes is lengthened first: in its direction, a fresh one high
unfoldable pub heading_of : Segment → Direction
heading_of fresh = high
heading_of (running d n) = d
heading_of paid = high
heading_of (paid_toward d) = d

-- how many steps its first vertex lies back
unfoldable pub steps_of : Segment → ℕ
steps_of fresh = 0
steps_of (running d n) = n
steps_of paid = 0
steps_of (paid_toward d) = 0

unfoldable pub grown_of : Option SegmentEnum → Grown
grown_of None = back
grown_of (Some s) = grown (segment_of s)

-- its length fits the field of M, 4 bits
unfoldable pub Short : SegmentEnum → Type 0
Short Fresh = Unit
Short (Running d n) = n < 16
Short Paid = Unit
Short (PaidToward d) = Unit

-- ---- prices

-- the line of a layer in the array
unfoldable pub line_at : List LayerStruct → (layer : ℕ) → LayerStruct
line_at ls k = get_or ls k no_line

abbrev pub line_record : LayerStruct → Layer
line_record l = record { wire = l.wire; via = l.via; min_length = l.least; area = l.area }

-- n layer lines from one on
unfoldable pub lines_from : List LayerStruct → (from n : ℕ) → List Layer
lines_from ls from zero = []
lines_from ls from (suc n) = line_record (line_at ls from) ∷ lines_from ls (suc from) n

unfoldable pub tech_by : TechStruct → Tech
tech_by t = record { grid = grid_of t.grid; lines = lines_from t.layers 0 t.grid.layers; guide = t.guide; short = t.short }

-- what a good job says of its layers, held by the code
pub record TechFits (t : TechStruct) : Type 0 where
  pub sized : Sized t.grid
  pub good : GoodTech (tech_by t)
  pub largest : t.largest ≡ largest_min_length (tech_by t).lines

-- what the net at hand sees, by the bytes that the code holds
abbrev pub seen_by : TechStruct → (seen : List ℕ) → View
seen_by t seen = view_by (grid_of t.grid) seen

-- a closed price forbids
unfoldable pub cost_of : Penalty → Cost
cost_of Closed = inf
cost_of (Price n) = fin n

-- ---- overhead

-- the vertices of an extension at a place: as many of the clear runs beyond the two ends of its segment
unfoldable pub laid_by : Grid → View → Place → ExtensionStruct → List ℕ
laid_by g view p e =
    let d = heading_of p.segment in
    clear_run g view d e.leaving p.vertex ++ clear_run g view (opposite d) e.starting (first_of g d (steps_of p.segment) p.vertex)

-- they are all clear
pub record Whole (g : Grid) (view : View) (p : Place) (e : ExtensionStruct) : Type 0 where
  pub leaving : length (clear_run g view (heading_of p.segment) e.leaving p.vertex) ≡ e.leaving
  pub starting : length (clear_run g view (opposite (heading_of p.segment)) e.starting
      (first_of g (heading_of p.segment) (steps_of p.segment) p.vertex)) ≡ e.starting

-- no vertex
unfoldable pub no_extension : ExtensionStruct
no_extension = record { leaving = 0; starting = 0 }

-- by the wire price and the area penalty of the layer that is left
unfoldable pub overhead_by : (wire area : ℕ) → Grid → View → Place → OverheadEnum → Overhead
overhead_by wire area g view p Nothing = owes 0 [] 0 0
overhead_by wire area g view p (Lengthened n e) = owes (wire * n) (laid_by g view p e) n 0
overhead_by wire area g view p Penalised = owes area [] 0 1
overhead_by wire area g view p Forbidden = forbidden

-- fewer than 16 steps are missing
unfoldable pub FewMissing : OverheadEnum → Type 0
FewMissing Nothing = Unit
FewMissing (Lengthened n e) = n < 16
FewMissing Penalised = Unit
FewMissing Forbidden = Unit

unfoldable pub WholeOverhead : Grid → View → Place → OverheadEnum → Type 0
WholeOverhead g view p Nothing = Unit
WholeOverhead g view p (Lengthened n e) = Whole g view p e
WholeOverhead g view p Penalised = Unit
WholeOverhead g view p Forbidden = Unit

pub record IsOverhead (wire area : ℕ) (g : Grid) (view : View) (p : Place) (r : OverheadEnum) (o : Overhead) : Type 0 where
  pub same : overhead_by wire area g view p r ≡ o
  pub few : FewMissing r
  pub whole : WholeOverhead g view p r

-- one that lays nothing is the same wherever it is asked
abbrev pub IsOverheadAnywhere : (area : ℕ) → OverheadEnum → Overhead → Type 0
IsOverheadAnywhere area r o = (wire : ℕ) (g : Grid) (view : View) (p : Place) → IsOverhead wire area g view p r o

-- what an overhead costs, by the layer line of the vertex that is left
unfoldable pub overhead_cost : LayerStruct → OverheadEnum → Cost
overhead_cost line Nothing = fin 0
overhead_cost line (Lengthened n e) = fin (line.wire * n)
overhead_cost line Penalised = fin line.area
overhead_cost line Forbidden = inf

-- the same of the definition's, for a via out of a place
unfoldable pub overhead_price : Overhead → Cost
overhead_price forbidden = inf
overhead_price (owes price laid added penalties) = fin price

unfoldable pub owed_cost : Tech → View → Place → Cost
owed_cost t view p = overhead_price (overhead_of t view p.vertex p.segment)

-- a via to a vertex at a price of entering, with what it owes
unfoldable pub by_owed : (w enter : ℕ) → Cost → Step Place
by_owed w enter inf = blocked
by_owed w enter (fin over) = to (enter + over) (record { vertex = w; segment = fresh })

-- ---- steps

abbrev pub place_of : PlaceStruct → Place
place_of p = record { vertex = p.vertex; segment = segment_of p.segment }

-- the vertex that a move enters with the price of entering it, if it enters one
unfoldable pub entry_by : (into : ℕ) → Cost → Option Entry
entry_by w inf = None
entry_by w (fin enter) = Some (record { into = w; price = enter })

unfoldable pub entry_at : Tech → View → (v move : ℕ) → Entered → Option Entry
entry_at t view v m outside = None
entry_at t view v m (at w) = elim (view.blocked w) [ true ↦ None | false ↦ entry_by w (entering t view v w m) ]

unfoldable pub entry_of : Tech → View → (v move : ℕ) → Option Entry
entry_of t view v m = entry_at t view v m (entered t.grid v m)

unfoldable pub made_by : Grid → View → Place → MadeStruct → Made
made_by g view p m =
    record {
      next = place_of m.next;
      enter = m.enter;
      over = m.over;
      laid = laid_by g view p m.extension;
      added = m.added;
      penalties = m.penalties;
    }

unfoldable pub stepped_by : Grid → View → Place → Option MadeStruct → Stepped
stepped_by g view p None = illegal
stepped_by g view p (Some m) = legal (made_by g view p m)

-- the vertices of a move's extension are all clear, and few steps were missing
pub record WholeMade (g : Grid) (view : View) (p : Place) (m : MadeStruct) : Type 0 where
  pub few : m.added < 16
  pub whole : Whole g view p m.extension

unfoldable pub WholeStep : Grid → View → Place → Option MadeStruct → Type 0
WholeStep g view p None = Unit
WholeStep g view p (Some m) = WholeMade g view p m

pub record IsStepped (g : Grid) (view : View) (p : Place) (r : Option MadeStruct) (s : Stepped) : Type 0 where
  pub same : stepped_by g view p r ≡ s
  pub whole : WholeStep g view p r

-- one that lays nothing is the same wherever it is asked
abbrev pub IsSteppedAnywhere : Option MadeStruct → Stepped → Type 0
IsSteppedAnywhere r s = (g : Grid) (view : View) (p : Place) → IsStepped g view p r s

-- a via move, with what it owes
unfoldable pub by_via : (into enter over : ℕ) → ExtensionStruct → (added penalties : ℕ) → Option MadeStruct
by_via into enter over extension added penalties =
    Some (record {
      next = record { vertex = into; segment = Fresh };
      enter = enter;
      over = over;
      extension = extension;
      added = added;
      penalties = penalties;
    })
