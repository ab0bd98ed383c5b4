-- How the bound is made: the box of the unjoined pins, the cheapest prices, and a table filled from both.
--     Among                          every unjoined pin is one of the net's pins
--     span_with, box_with            a span that takes in one more coordinate, a box that takes in one more
--                                    vertex
--     nowhere, unjoined_box          the empty span, and the box of the unjoined ones of the first pins
--     wires, vias, cheapest_of       the prices of the layers, and the lowest of the first ones
--     leaves, axis_filled, filled    what a coordinate leaves, a table with the entries of an axis, and with
--                                    those of all three
use Rattle.std.specs.Prelude.{ℕ, zero, suc, ◌+◌, ◌-◌, ◌*◌, ◌<◌, min, max, ◌≡◌, List, true, cond, get_or, set, take, map, eqb}
use Rattle.job.specs.Lists.{All}
use Rattle.job.specs.Grid.{Grid, Vertex, vertices}
use Rattle.job.specs.Structs.{grid_of}
use Rattle.job.specs.declared.groups.Layer.{Layer}
use Rattle.bounds.specs.declared.fill.PinSpan.{PinSpan}
use Rattle.bounds.specs.declared.fill.PinBox.{PinBox}
use Rattle.rules.specs.Tracks.{vertex_by}
use Rattle.rules.specs.Views.{member}
use Rattle.rules.specs.declared.price.Tech.{Tech}
use Rattle.tree.specs.Spots.{Pins}

-- the first so many pins are vertices of the grid, and every unjoined pin is one of them
pub record Among (g : Grid) (spots pins : List ℕ) (count : ℕ) : Type 0 where
  pub there : Pins pins count
  pub on_grid : All (λ v. v < vertices g) (take count pins)
  pub known : (v : ℕ) → v < vertices g → get_or spots v 0 ≡ 2 → member v (take count pins) ≡ true

-- ---- the box

-- a span that takes in a coordinate too: both ends are inside
abbrev pub span_with : PinSpan → (at : ℕ) → PinSpan
span_with span at = record { low = min span.low at; high = max span.high at }

-- the same on each axis
abbrev pub box_with : PinBox → Vertex → PinBox
box_with box x =
    record { layers = span_with box.layers x.layer; rows = span_with box.rows x.row; columns = span_with box.columns x.column }

-- the span that takes in no coordinate: the first one sets both ends
abbrev pub nowhere : PinSpan
nowhere = record { low = 255; high = 0 }

-- the box of the unjoined ones among the first so many pins
unfoldable pub unjoined_box : Grid → (spots pins : List ℕ) → (count : ℕ) → PinBox
unjoined_box g spots pins zero = record { layers = nowhere; rows = nowhere; columns = nowhere }
unjoined_box g spots pins (suc n) =
    let before = unjoined_box g spots pins n in
    let pin = get_or pins n 0 in
    cond (eqb (get_or spots pin 0) 2) (box_with before (vertex_by g pin)) before

-- ---- prices

-- of the layers
abbrev pub wires : Tech → List ℕ
wires t = map (λ (l : Layer). l.wire) t.layers

abbrev pub vias : Tech → List ℕ
vias t = map (λ (l : Layer). l.via) t.layers

-- the lowest of the first so many, and of the dearest that a layer line can name
unfoldable pub cheapest_of : (prices : List ℕ) → (count : ℕ) → ℕ
cheapest_of prices zero = 1023
cheapest_of prices (suc n) = min (cheapest_of prices n) (get_or prices n 0)

-- ---- the table

-- 15 times the price of the steps to the span
unfoldable pub leaves : PinSpan → (price at : ℕ) → ℕ
leaves span price at = 15 * (price * (span.low - at + (at - span.high)))

-- a table with the entries of the first so many coordinates, from a place on
unfoldable pub axis_filled : PinSpan → (price first count : ℕ) → (before : List ℕ) → List ℕ
axis_filled span price first zero before = before
axis_filled span price first (suc n) before = set (axis_filled span price first n before) (first + n) (leaves span price n)

-- with the entries of all rows, columns and layers: a step costs at least the cheapest wire, and no via leads
-- up from the top layer
unfoldable pub filled : Tech → (spots pins : List ℕ) → (count : ℕ) → (before : List ℕ) → List ℕ
filled t spots pins count before =
    let box = unjoined_box (grid_of t.grid) spots pins count in
    let wire = cheapest_of (wires t) t.grid.layers in
    let via = cheapest_of (vias t) (t.grid.layers - 1) in
    axis_filled box.layers via 516 t.grid.layers
    (axis_filled box.columns wire 258 t.grid.columns (axis_filled box.rows wire 1 t.grid.rows before))
