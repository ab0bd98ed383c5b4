-- Nets: reading pins, a net and all nets is good exactly where the bits stand there and the rules hold.
--     pin_read, pins_read     one pin, the pins of a net
--     net_placed, net_head    a net stands there where its parts do; its head, read or placed
--     net_read, nets_read     one net, all nets
use Prim.Native.Nat.{ℕ, ◌+◌, ◌-◌, ◌*◌}
use native.Mathlib.Omega.{arith}
use mathlib.Core.Path.{◌≡◌, refl, sym}
use mathlib.Core.Logic.Iff
use mathlib.Core.Logic.{◌↔◌}
use mathlib.Core.Bool.{not}
use mathlib.Core.List.{List, [], ◌∷◌, ◌++◌, flat_map}
use lib.ListN.{length}
use lib.Dec.{T, lit<}
use Rattle.bits.specs.Bits.{whole, group_bits}
use Rattle.bits.specs.Puts.{AllBelow}
use Rattle.job.specs.Lists.{any, All}
use Rattle.job.specs.Grid.{Grid, Vertex, same}
use Rattle.job.specs.Job.{Obstacle, Net}
use Rattle.job.specs.Reading.{good, read_pin, read_pins, read_net, read_nets, net_width}
use Rattle.job.specs.Packing.{vertex_bits, box_bits, net_bits}
use Rattle.job.specs.Good.{GoodGrid, GoodPin, GoodNet, all_pins}
use Rattle.job.proofs.Tests.{tests, crosswise}
use Rattle.job.proofs.Binds.{steps}
use Rattle.job.proofs.TwoWay.Places.{Placed, Fits, FieldsAt, widths, placed-append, group-placed}
use Rattle.job.proofs.TwoWay.Widths.{vertex_bits_lem, concat_bits, net_head_bits, net_bits_lem}
use Rattle.job.proofs.TwoWay.Groups.{inside_fits, vertex_placed, boxes_read}
use Rattle.job.proofs.TwoWay.Many.{Run, many_read}
use Rattle.job.proofs.TwoWay.Pins.{New, new_nil, new_cons, new_append}

-- the fields of a net's head
abbrev pub net_fields : Net → List (ℕ × ℕ)
net_fields net = (4, length net.pins - 1) ∷ (4, length net.boxes) ∷ []

module _ (B : List ℕ) (bits : AllBelow 2 B) (g : Grid) (small : GoodGrid g) (obstacles : List Obstacle) where
  -- reading a pin
  pin_read : (earlier : List Vertex) (at : ℕ) (v : Vertex)
      → (read_pin B g obstacles earlier at ≡ good v) ↔ (Placed B at (vertex_bits v) × (GoodPin g obstacles v × T (not (any (same v) earlier))))
  unfolding read_pin
  pin_read earlier at v =
      simp (steps, tests) (
        λ (w, ((inside, free), (other, e))).
            (((vertex_placed B bits at v).1 (w, e)).0, (record { inside = rw e at inside; free = rw e at free }, rw e at other)),
        λ (p, (good-v, other)).
            let r = (vertex_placed B bits at v).0 (p, inside_fits g small v good-v.inside) in
            rw r.1 (r.0, ((good-v.inside, good-v.free), (other, refl))),
      )

  -- reading the pins of a net
  pins_read : (earlier : List Vertex) (n at : ℕ) (vs : List Vertex)
      → (read_pins B g obstacles earlier n at ≡ good vs)
      ↔ ((length vs ≡ n) × (Placed B at (flat_map vertex_bits vs) × (All (GoodPin g obstacles) vs × New earlier vs)))
  unfolding read_pins All
  pins_read = many_read B run
    where
      run : Run B (List Vertex) Vertex
      run =
          record {
            bits = vertex_bits;
            width = λ v. 19;
            wide = vertex_bits_lem;
            Rules = λ earlier after v. GoodPin g obstacles v × T (not (any (same v) earlier));
            next = λ v earlier. v ∷ earlier;
            read = λ earlier after. read_pin B g obstacles earlier;
            read_good = λ earlier after. pin_read earlier;
            AllRules = λ earlier vs. All (GoodPin g obstacles) vs × New earlier vs;
            no_rules = λ earlier. (tt, new_nil earlier);
            more_rules = λ earlier v vs. simp new_cons crosswise;
            many = read_pins B g obstacles;
            many_zero = λ earlier at. refl;
            many_suc = λ earlier n at. refl;
          }

  -- the bits of a net stand there where those of its head, its pins and its boxes do
  pub net_placed : (at : ℕ) (net : Net)
      → Placed B at (net_bits net)
      ↔ (Placed B at (group_bits (net_fields net))
      × (Placed B (at + 8) (flat_map vertex_bits net.pins) × Placed B (at + 8 + 19 * length net.pins) (flat_map box_bits net.boxes)))
  unfolding net_bits
  net_placed at net = simp (placed-append, net_head_bits, concat_bits vertex_bits 19 vertex_bits_lem) Iff.rfl

  -- the head of a net stands there and fits, where it is whole and its fields hold its numbers
  pub net_head : (at : ℕ) (net : Net)
      → (Placed B at (group_bits (net_fields net)) × Fits (net_fields net)) ↔ (T (whole B at 8) × FieldsAt B at (net_fields net))
  unfolding widths
  net_head at net = group-placed B at bits (net_fields net) (lit< tt)

  -- reading a net
  net_read : (earlier : List Vertex) (at : ℕ) (net : Net)
      → (read_net B g obstacles earlier at ≡ good net) ↔ (Placed B at (net_bits net) × (GoodNet g obstacles net × New earlier net.pins))
  unfolding read_net
  net_read earlier at net =
      simp (steps, pins_read, boxes_read B bits g small, net_placed) (
        λ (w, (pins, (n, (p, (good-pins, new))), (boxes, (m, (q, good-boxes)), e))).
            let read : Net = record { pins = pins; boxes = boxes } in
            let h = (net_head at read).1 (w, (omega arith, (sym m, tt))) in
            rw (← e) (
              (h.0, (p, q)),
              (record { some_pins = omega arith; pins = omega arith; boxes = h.1.1.0; good_pins = good-pins; good_boxes = good-boxes }, new),
            ),
        λ ((h, (p, q)), (good-net, new)).
            let r = (net_head at net).0 (h, (omega arith, (good-net.boxes, tt))) in (
              r.0,
              (
                net.pins,
                (omega arith, (p, (good-net.good_pins, new))),
                (net.boxes, (sym r.1.1.0, (q, good-net.good_boxes)), refl),
              ),
            ),
      )

  -- reading all nets
  pub nets_read : (earlier : List Vertex) (n at : ℕ) (nets : List Net)
      → (read_nets B g obstacles earlier n at ≡ good nets)
      ↔ ((length nets ≡ n) × (Placed B at (flat_map net_bits nets) × (All (GoodNet g obstacles) nets × New earlier (all_pins nets))))
  unfolding read_nets All all_pins
  nets_read = many_read B run
    where
      run : Run B (List Vertex) Net
      run =
          record {
            bits = net_bits;
            width = net_width;
            wide = net_bits_lem;
            Rules = λ earlier after net. GoodNet g obstacles net × New earlier net.pins;
            next = λ net earlier. net.pins ++ earlier;
            read = λ earlier after. read_net B g obstacles earlier;
            read_good = λ earlier after. net_read earlier;
            AllRules = λ earlier nets. All (GoodNet g obstacles) nets × New earlier (all_pins nets);
            no_rules = λ earlier. (tt, new_nil earlier);
            more_rules = λ earlier net nets. simp new_append crosswise;
            many = read_nets B g obstacles;
            many_zero = λ earlier at. refl;
            many_suc = λ earlier n at. refl;
          }
