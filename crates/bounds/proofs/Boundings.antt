-- The table of the box of the unjoined pins is a bound on what is left.
--     filled_small     all of its entries are small
--     bounding         it is such a bound
--     bounds_made      the same of what the code makes
use Prim.Native.Nat.{ℕ, ◌+◌, ◌-◌, ◌*◌, ◌≤◌, ◌<◌}
use mathlib.Core.Path.{◌≡◌, refl, ap, ◌∙◌}
use mathlib.Core.List.{List, map}
use native.Mathlib.Omega.{arith}
use lib.ListN.{length, get_or, get_or-map}
use Rattle.job.specs.Grid.{Grid, vertices}
use Rattle.job.specs.Structs.{grid_of, layer_struct, no_line}
use Rattle.bounds.specs.declared.fill.PinBox.{PinBox}
use Rattle.job.specs.declared.groups.Layer.{Layer as LayerStruct}
use Rattle.paths.specs.Systems.{to}
use Rattle.paths.specs.Costs.{Cost, fin, inf, plus}
use Rattle.rules.specs.Tracks.{layer_of, row_of, column_of}
use Rattle.rules.specs.Views.{View}
use Rattle.rules.specs.Segments.{Direction, low, high, Kind, along, kind_of, Place}
use Rattle.rules.specs.Prices.{Tech, line_of, base, guide_at, short_at, sum_cost, entering}
use Rattle.rules.specs.Steps.{step, priced}
use Rattle.rules.specs.Places.{GoodPlace}
use Rattle.rules.specs.Structs.{TechFits, line_at, tech_by}
use Rattle.rules.specs.declared.price.Tech.{Tech as TechStruct}
use Rattle.rules.proofs.Vertices.{vertex_below}
use Rattle.rules.proofs.Neighbours.{entered_below}
use Rattle.rules.proofs.Segments.{move_led}
use Rattle.rules.proofs.Moves.{step_parts}
use Rattle.rules.proofs.Held.{line_held}
use Rattle.rules.proofs.Lists.{Filled}
use Rattle.bounds.specs.Bounds.{bound_at, SmallBounds, Bounding}
use Rattle.bounds.specs.Fills.{Among, unjoined_box, wires, vias, cheapest_of, leaves, axis_filled, filled}
use Rattle.bounds.proofs.Coordinates.{OneOn, via_on, one_near, Changed, column, row, layer, changed, small_sum}
use Rattle.bounds.proofs.Axes.{leaves_none, leaves_next, axis_told, axis_small, cheapest_fits, cheapest_of_lem}
use Rattle.bounds.proofs.Boxes.{box_low, box_holds}

-- ---- what a move costs at least

-- a price with penalties
plus-least : (b : ℕ) (x : Cost) {n : ℕ} → plus b x ≡ fin n → b ≤ n
plus-least b (fin k) {n} e = let sum : b + k ≡ n = cc in omega arith
plus-least b inf {n} e = let z : ◌≡◌ {A = ℕ} 0 1 = cc in omega arith

-- entering costs at least the wire or the via
entering-least : (t : Tech) (view : View) (v w m : ℕ) {n : ℕ} → entering t view v w m ≡ fin n → base t v w m ≤ n
unfolding entering
entering-least t view v w m e = plus-least (base t v w m) (sum_cost (guide_at t view w) (short_at t view w)) e

module _ {t : TechStruct} (tech : TechFits t) {v w : ℕ} (on : v < vertices (grid_of t.grid)) (into : w < vertices (grid_of t.grid)) where
  -- a price in the layer line of a vertex
  price_held : (price : LayerStruct → ℕ) {u : ℕ} → u < vertices (grid_of t.grid)
      → get_or (map price t.layers) (layer_of (grid_of t.grid) u) (price no_line) ≡ price (layer_struct (line_of (tech_by t) u))
  unfolding line_at
  price_held price {u} there = get_or-map price t.layers (layer_of (grid_of t.grid) u) no_line ∙ ap price (line_held tech there)

  -- a step costs at least the cheapest wire
  wire_least : (m : ℕ) (d : Direction) → kind_of m ≡ along d → cheapest_of (wires t) t.grid.layers ≤ base (tech_by t) v w m
  unfolding base no_line
  wire_least m d step =
      let held = price_held (λ (l : LayerStruct). l.wire) into in
      rw (step, base) (omega (arith, held, cheapest_of_lem (wires t) _ _ (vertex_below (grid_of t.grid) into).layer))

  -- a via costs at least the cheapest via: the lower of its layers is not the top one
  via_least : (m : ℕ) (d : Direction) → kind_of m ≡ via_on d → OneOn d (layer_of (grid_of t.grid) v) (layer_of (grid_of t.grid) w)
      → cheapest_of (vias t) (t.grid.layers - 1) ≤ base (tech_by t) v w m
  unfolding base no_line via_on OneOn
  via_least m low goes next =
      let held = price_held (λ (l : LayerStruct). l.via) into in
      let lowest = cheapest_of_lem (vias t) (t.grid.layers - 1) (layer_of (grid_of t.grid) w) in
      rw (goes, base) (omega (arith, held, lowest (omega (arith, next, (vertex_below (grid_of t.grid) on).layer))))
  via_least m high goes next =
      let held = price_held (λ (l : LayerStruct). l.via) on in
      let lowest = cheapest_of_lem (vias t) (t.grid.layers - 1) (layer_of (grid_of t.grid) v) in
      rw (goes, base) (omega (arith, held, lowest (omega (arith, next, (vertex_below (grid_of t.grid) into).layer))))

-- ---- the table

module _ {t : TechStruct} (tech : TechFits t) (spots pins : List ℕ) (count : ℕ) (found : List ℕ) (room : length found ≡ 528) where
  abbrev g : Grid
  g = grid_of t.grid

  abbrev box : PinBox
  box = unjoined_box g spots pins count

  abbrev wire : ℕ
  wire = cheapest_of (wires t) t.grid.layers

  abbrev via : ℕ
  via = cheapest_of (vias t) (t.grid.layers - 1)

  abbrev rows : List ℕ
  rows = axis_filled box.rows wire 1 t.grid.rows found

  abbrev columns : List ℕ
  columns = axis_filled box.columns wire 258 t.grid.columns rows

  abbrev bounds : List ℕ
  bounds = axis_filled box.layers via 516 t.grid.layers columns

  row_room : 1 + t.grid.rows ≤ length found
  row_room = omega (arith, room, tech.sized.small.rows)

  row_axis : Filled (leaves box.rows wire) 1 found rows t.grid.rows
  row_axis = axis_told box.rows wire 1 found t.grid.rows row_room

  column_room : 258 + t.grid.columns ≤ length rows
  column_room = omega (arith, room, row_axis.size, tech.sized.small.columns)

  column_axis : Filled (leaves box.columns wire) 258 rows columns t.grid.columns
  column_axis = axis_told box.columns wire 258 rows t.grid.columns column_room

  layer_room : 516 + t.grid.layers ≤ length columns
  layer_room = omega (arith, room, row_axis.size, column_axis.size, tech.sized.small.layers)

  layer_axis : Filled (leaves box.layers via) 516 columns bounds t.grid.layers
  layer_axis = axis_told box.layers via 516 columns t.grid.layers layer_room

  -- what a vertex leaves: what its coordinates leave
  bound_told : (v : ℕ) → v < vertices g → bound_at g bounds v
      ≡ leaves box.rows wire (row_of g v) + (leaves box.columns wire (column_of g v) + leaves box.layers via (layer_of g v))
  unfolding bound_at
  bound_told v on =
      let b = vertex_below g on in
      let r = layer_axis.kept (1 + row_of g v) (omega (arith, b.row, tech.sized.small.rows))
      ∙ column_axis.kept (1 + row_of g v) (omega (arith, b.row, tech.sized.small.rows)) ∙ row_axis.done (row_of g v) b.row in
      let c = layer_axis.kept (258 + column_of g v) (omega (arith, b.column, tech.sized.small.columns)) ∙ column_axis.done (column_of g v) b.column in
      rw (r, c, layer_axis.done (layer_of g v) b.layer) refl

  -- no move lowers it by more than 15 times its price
  told_nearer : {k : Kind} {v w c : ℕ} → v < vertices g → w < vertices g → Changed g k v w → ((d : Direction) → k ≡ along d → wire ≤ c)
      → ((d : Direction) → k ≡ via_on d → OneOn d (layer_of g v) (layer_of g w) → via ≤ c) → bound_at g bounds v ≤ 15 * c + bound_at g bounds w
  told_nearer {k} {v} {w} {c} on into (column d step on-column same-layer same_row next) wires vias =
      let r = ap (leaves box.rows wire) same_row in
      let l = ap (leaves box.layers via) same-layer in
      let (below, above) = one_near d next in
      let less = leaves_next box.columns wire (column_of g v) (column_of g w) (omega arith) (omega arith) in
      omega (arith, bound_told v on, bound_told w into, r, l, less, wires d step)
  told_nearer {k} {v} {w} {c} on into (row d step on_Row same-layer same-column next) wires vias =
      let q = ap (leaves box.columns wire) same-column in
      let l = ap (leaves box.layers via) same-layer in
      let (below, above) = one_near d next in
      let less = leaves_next box.rows wire (row_of g v) (row_of g w) (omega arith) (omega arith) in
      omega (arith, bound_told v on, bound_told w into, q, l, less, wires d step)
  told_nearer {k} {v} {w} {c} on into (layer d goes same_row same-column next) wires vias =
      let r = ap (leaves box.rows wire) same_row in
      let q = ap (leaves box.columns wire) same-column in
      let (below, above) = one_near d next in
      let less = leaves_next box.layers via (layer_of g v) (layer_of g w) (omega arith) (omega arith) in
      omega (arith, bound_told v on, bound_told w into, r, q, less, vias d goes next)

  -- it is small, as the one before was
  pub filled_small : SmallBounds found → SmallBounds (filled t spots pins count found)
  unfolding filled
  filled_small small =
      let low = box_low g spots pins count in
      let cheap = cheapest_fits (wires t) t.grid.layers in
      let r = axis_small box.rows wire 1 found t.grid.rows row_room tech.sized.small.rows low.rows cheap small in
      let c = axis_small box.columns wire 258 rows t.grid.columns column_room tech.sized.small.columns low.columns cheap r in
      axis_small box.layers via 516 columns t.grid.layers layer_room (omega (arith, tech.sized.small.layers)) low.layers
      (cheapest_fits (vias t) (t.grid.layers - 1)) c

  pub bounding : Among g spots pins count → SmallBounds found → Bounding (tech_by t) spots (filled t spots pins count found)
  unfolding tech_by filled
  bounding among small = record { none = none; nearer = nearer; small = small_sum g bounds (filled_small small) }
    where
      none : (v : ℕ) → v < vertices g → get_or spots v 0 ≡ 2 → bound_at g bounds v ≡ 0
      none v on unjoined =
          let in-box = box_holds g spots pins count v among.there.there (among.known v on unjoined) unjoined in
          omega (arith, bound_told v on, leaves_none _ wire _ in-box.row, leaves_none _ wire _ in-box.column, leaves_none _ via _ in-box.layer)

      nearer : (view : View) {p q : Place} (m : ℕ) {c : ℕ} → GoodPlace (tech_by t) p → priced (step (tech_by t) view p m) ≡ to c q
          → bound_at g bounds p.vertex ≤ 15 * c + bound_at g bounds q.vertex
      nearer view {p} {q} m {c} good e =
          let went = step_parts (tech_by t) view p m e in
          let led = move_led view p (kind_of m) went.vertex went.enter tech.good good.vertex went.does in
          let least = entering-least (tech_by t) view p.vertex went.vertex m went.pays in
          let into = entered_below g m good.vertex went.enters in
          rw led.vertex
          (told_nearer good.vertex into (changed g m good.vertex went.enters)
          (λ d step. omega (arith, wire_least tech good.vertex into m d step, least, led.cost))
          (λ d goes next. omega (arith, via_least tech good.vertex into m d goes next, least, led.cost)))

  -- what the code leaves, step by step, is that table
  pub bounds_made : Among g spots pins count → SmallBounds found → {around : PinBox} {wires vias : ℕ} {first second made : List ℕ}
      → around ≡ box → wires ≡ wire → vias ≡ via → first ≡ axis_filled around.rows wires 1 t.grid.rows found
      → second ≡ axis_filled around.columns wires 258 t.grid.columns first → made ≡ axis_filled around.layers vias 516 t.grid.layers second
      → Bounding (tech_by t) spots made × SmallBounds made × (made ≡ filled t spots pins count found)
  unfolding filled
  bounds_made among small {made = made} is-box is-wire is-via one two three =
      let is : made ≡ bounds = rw (three, two, one, is-box, is-wire, is-via) refl in
      (rw is (bounding among small), rw is (filled_small small), is)
