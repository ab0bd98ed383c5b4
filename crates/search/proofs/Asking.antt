-- What the code asks of a place and of a move.
--     largest_fits, largest_asked         the largest M is at most 15; where there is a place, from 1
--     item_good, item_code, item_bound    the place of a number is good, and has that number
--     vertex_here, vertex_on              the vertex of a place is one of the bytes, and of the grid
--     segment_short, code_asked           what its segment and its number are asked for
--     code_made, code_here                the number that the code makes; it is in the work slice
--     next_left, next_small               what is left from the place that a move leads to; it is small
--     start_asked, _made, _below, _left   the place where a join starts
--     settled_here, _short, _fields       what is asked of a settled place
--     Led, led, led_not                   what a legal move from it leads to; one not legal is blocked
use Prim.Native.Nat.{ℕ, ◌+◌, ◌^◌, ◌≤◌, ◌<◌}
use mathlib.Core.Path.{◌≡◌, refl, sym, ap, ◌∙◌}
use mathlib.Core.List.{List}
use native.Mathlib.Omega.{arith}
use Rattle.std.proofs.Common.{Option, Some, None}
use Rattle.job.specs.Grid.{vertices}
use Rattle.job.specs.Structs.{InFields, grid_of, vertex_of, vertex_struct}
use Rattle.job.specs.declared.grid.Vertex.{Vertex}
use Rattle.paths.specs.Systems.{blocked, to}
use Rattle.rules.specs.Tracks.{vertex_by, at, entered}
use Rattle.rules.specs.Views.{View}
use Rattle.rules.specs.Segments.{Place}
use Rattle.rules.specs.Steps.{Stepped, step, priced}
use Rattle.rules.specs.Joins.{places}
use Rattle.rules.specs.Places.{code_by, place_code, place_at, GoodSegment, GoodPlace, dearest_move}
use Rattle.rules.specs.Structs.{OnGrid, segment_of, Short, TechFits, tech_by, seen_by, place_of, made_by, stepped_by, IsStepped}
use Rattle.rules.specs.Charging.{Here}
use Rattle.rules.specs.declared.price.Prices.{Prices}
use Rattle.rules.specs.declared.price.Tech.{Tech as TechStruct}
use Rattle.rules.specs.declared.segment.Segment.{Segment as SegmentEnum}
use Rattle.rules.specs.declared.segment.Segment.TheVariants.{Fresh, Running, Paid, PaidToward}
use Rattle.rules.specs.declared.step.Place.{Place as PlaceStruct}
use Rattle.rules.specs.declared.step.Made.{Made as MadeStruct}
use Rattle.rules.proofs.Techs.{some_largest, largest_small}
use Rattle.rules.proofs.Held.{in_array}
use Rattle.rules.specs.Walks.{start_at}
use Rattle.rules.proofs.Places.{code_below, start_good}
use Rattle.rules.proofs.Moves.{step_keeps, step_limits}
use Rattle.bounds.specs.Bounds.{bound_of, bound_at, SmallBounds}
use Rattle.bounds.proofs.Coordinates.{vertex_fields_lem}
use Rattle.search.specs.Fronts.{left_at}
use Rattle.search.specs.Tries.{AtPlace}
use Rattle.search.specs.declared.settled.Settled.{Settled}
use Rattle.search.proofs.Numbers.{place_good, code_place}
use Rattle.search.proofs.Lawful.{legal_enters}
use Rattle.search.proofs.Costing.{left_place, told_small}

-- a good segment's length fits its field
short_good : {largest : ℕ} (s : SegmentEnum) → largest ≤ 15 → GoodSegment largest (segment_of s) → Short s
unfolding segment_of GoodSegment Short
short_good Fresh h good = tt
short_good (Running d n) h good = omega arith
short_good Paid h good = tt
short_good (PaidToward d) h good = tt

module _ {tech : TechStruct} (held : TechFits tech) where
  -- the largest M is at most 15
  pub largest_fits : tech.largest ≤ 15
  largest_fits = omega (arith, held.largest, largest_small held.good)

  module _ {item : ℕ} (known : item < places (tech_by tech)) where
    -- the place of a number is good
    number_good : GoodPlace (tech_by tech) (place_at tech.largest item)
    unfolding tech_by
    number_good = rw held.largest (place_good held.good known)

    -- where there is a place, it is 1 at least
    pub largest_asked : (1 ≤ tech.largest) × (tech.largest ≤ 15)
    largest_asked = (omega (arith, held.largest, some_largest held.good number_good.vertex), largest_fits)

    module _ (place : PlaceStruct) (is : place_of place ≡ place_at tech.largest item) where
      pub item_good : GoodPlace (tech_by tech) (place_of place)
      item_good = rw is number_good

      -- what is left from it, as the code has it
      pub item_bound : (bounds : List ℕ) {from : Vertex} {left : ℕ} → from ≡ vertex_struct (vertex_by (grid_of tech.grid) place.vertex)
          → left ≡ bound_of bounds (vertex_of from) → left ≡ left_at (tech_by tech) bounds item
      unfolding left_at bound_at tech_by
      item_bound bounds here told =
          let vertex = ap (λ (p : Place). p.vertex) is in
          told ∙ rw here (rw (← held.largest, ← vertex) refl)

      pub item_code : place_code (tech_by tech) (place_of place) ≡ item
      unfolding tech_by
      item_code = rw (is, held.largest) (code_place held.good known)

  module _ (place : PlaceStruct) (on : GoodPlace (tech_by tech) (place_of place)) where
    -- a good place's vertex
    place_there : place.vertex < vertices (grid_of tech.grid)
    unfolding tech_by
    place_there = on.vertex

    -- and its segment
    segment_there : GoodSegment tech.largest (segment_of place.segment)
    segment_there = rw held.largest on.segment

    -- its vertex is one of the bytes
    pub vertex_here : place.vertex < 16384
    vertex_here = in_array held place_there

    -- its vertex is one of the grid, as the bound asks
    pub vertex_on : OnGrid tech.grid place.vertex
    vertex_on = record { small = held.sized.small; there = place_there }

    -- its segment's length fits its field
    pub segment_short : Short place.segment
    segment_short = short_good place.segment largest_fits segment_there

    -- what its number is asked for
    pub code_asked : (1 ≤ tech.largest) × (tech.largest ≤ 15) × (place.vertex < 16384) × GoodSegment tech.largest (segment_of place.segment)
    code_asked = (omega (arith, held.largest, some_largest held.good on.vertex), largest_fits, vertex_here, segment_there)

    module _ {code : ℕ} (made : code ≡ code_by tech.largest (place_of place)) where
      -- its number, as the code makes it
      pub code_made : code ≡ place_code (tech_by tech) (place_of place)
      unfolding place_code tech_by
      code_made = rw (made, held.largest) refl

      -- it is in the work slice
      pub code_here : {n : ℕ} → places (tech_by tech) ≤ n → code < n
      code_here room = omega (arith, code_made, code_below on, room)

    -- the place that a move leads to, by the coordinates of the vertex left
    module _ (view : View) (number : ℕ) {c : ℕ} {q : Place} (leads : priced (step (tech_by tech) view (place_of place) number) ≡ to c q) (bounds : List ℕ)
        {from : Vertex} {left : ℕ} (is : from ≡ vertex_struct (vertex_by (grid_of tech.grid) place.vertex))
        (told : (v w : ℕ) → v < vertices (grid_of tech.grid) → from ≡ vertex_struct (vertex_by (grid_of tech.grid) v)
        → entered (grid_of tech.grid) v number ≡ at w → left ≡ bound_at (grid_of tech.grid) bounds w) where
      -- what is left from its vertex
      left_here : left ≡ bound_at (grid_of tech.grid) bounds q.vertex
      unfolding tech_by
      left_here = told place.vertex q.vertex place_there is (legal_enters view held.good number on leads)

      -- and from the place
      pub next_left : left ≡ left_at (tech_by tech) bounds (place_code (tech_by tech) q)
      unfolding tech_by
      next_left = left_here ∙ sym (left_place held.good bounds (step_keeps view (place_of place) number held.good on leads))

      -- it is small
      pub next_small : SmallBounds bounds → left ≤ 2 ^ 24
      next_small small = told_small (grid_of tech.grid) bounds q.vertex small left_here

  -- ---- a join starts paid with no direction

  module _ {v : ℕ} (below : v < vertices (grid_of tech.grid)) where
    abbrev start : PlaceStruct
    start = record { vertex = v; segment = Paid }

    start_on : GoodPlace (tech_by tech) (place_of start)
    unfolding tech_by start_at segment_of
    start_on = start_good below

    pub start_asked : (1 ≤ tech.largest) × (tech.largest ≤ 15) × (v < 16384) × GoodSegment tech.largest (segment_of Paid)
    start_asked = code_asked start start_on

    pub start_made : {code : ℕ} → code ≡ code_by tech.largest (place_of start) → code ≡ place_code (tech_by tech) (start_at v)
    unfolding start_at segment_of
    start_made made = code_made start start_on made

    pub start_below : {code : ℕ} → code ≡ code_by tech.largest (place_of start) → code < places (tech_by tech)
    start_below made = omega (arith, code_made start start_on made, code_below start_on)

    -- what is left from there, as the code has it
    pub start_left : (bounds : List ℕ) {left : ℕ} → left ≡ bound_at (grid_of tech.grid) bounds v
        → left ≡ left_at (tech_by tech) bounds (place_code (tech_by tech) (start_at v))
    unfolding tech_by start_at segment_of
    start_left bounds told = told ∙ sym (left_place held.good bounds start_on)

-- ---- a settled place

module _ {p : Prices} {settled : Settled} (at_place : AtPlace p settled) where
  -- what a step asks of its vertex
  pub settled_here : Here p settled.place.vertex settled.vertex
  settled_here = record { there = (vertex_on p.fits settled.place at_place.good).there; is = at_place.is }

  -- and of its segment
  pub settled_short : Short settled.place.segment
  settled_short = segment_short p.fits settled.place at_place.good

  -- its coordinates lie in their fields' ranges
  pub settled_fields : InFields settled.vertex
  settled_fields =
      rw at_place.is (vertex_fields_lem p.tech.grid settled.place.vertex (vertex_on p.fits settled.place at_place.good))

  module _ (seen : List ℕ) (number : ℕ) where
    -- the move that the code makes from it
    abbrev does : Stepped
    does = step (tech_by p.tech) (seen_by p.tech seen) (place_of settled.place) number

    -- what a legal one leads to
    pub record Led (made : MadeStruct) : Type 0 where
      pub leads : priced does ≡ to (made.enter + made.over) (place_of made.next)
      pub good : GoodPlace (tech_by p.tech) (place_of made.next)
      pub price : made.enter + made.over ≤ dearest_move

    pub led : {r : Option MadeStruct} {made : MadeStruct} → IsStepped (grid_of p.tech.grid) (seen_by p.tech seen) (place_of settled.place) r does → r ≡ Some made
        → Led made
    unfolding stepped_by made_by priced
    led {r} {made} stepped is =
        let leads : priced does ≡ to (made.enter + made.over) (place_of made.next) = rw (← stepped.same, is) refl in
        record {
          leads = leads;
          good = step_keeps (seen_by p.tech seen) (place_of settled.place) number p.fits.good at_place.good leads;
          price = step_limits (seen_by p.tech seen) (place_of settled.place) number p.fits.good at_place.good leads;
        }

    -- one that is not legal is blocked
    pub led_not : {r : Option MadeStruct} → IsStepped (grid_of p.tech.grid) (seen_by p.tech seen) (place_of settled.place) r does → r ≡ None
        → priced does ≡ blocked
    unfolding stepped_by priced
    led_not stepped is = rw (← stepped.same, is) refl
