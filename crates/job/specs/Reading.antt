-- Reading a job's bytes: a good job, or a refusal with its number and place. "The first broken rule in
-- reading order is returned, within a group in table order"; a group that is not whole is refused by 2 at its
-- first bit, before its rules.
-- Specification: sections 1 and 7.
--     Read, rule, whole_group    what reading answers, and the two ways in which it ends early
--     read_head .. read_tail     one function a group, each at the group's first bit
--     read_job                   from any bytes
use Rattle.std.specs.Prelude.{ℕ, zero, suc, ◌+◌, ◌-◌, ◌*◌, List, [], ◌∷◌, ◌++◌, Bool, ◌&&◌, not, cond, length, drop, leb, ltb, eqb}
use Rattle.bits.specs.Bits.{bits_of, field, whole, number}
use Rattle.job.specs.Lists.{any, all}
use Rattle.job.specs.Grid.{Grid, Vertex, vertices, inside, same, run_high}
use Rattle.job.specs.Job.{Layer, Obstacle, Box, Net, Job}

pub data Read (A : Type 0) : Type 0 where
  refused : (refusal place : ℕ) → Read A
  good : A → Read A

module _ {A B : Type 0} where
  -- go on with what was read, or end with the refusal
  unfoldable pub ◌>>=◌ : Read A → (A → Read B) → Read B
  ◌>>=◌ (refused n p) next = refused n p
  ◌>>=◌ (good a) next = next a

  unfoldable pub ◌>>◌ : Read A → Read B → Read B
  ◌>>◌ (refused n p) next = refused n p
  ◌>>◌ (good a) next = next

-- a rule that holds, or the refusal with its place
unfoldable pub rule : (refusal place : ℕ) → Bool → Read Unit
rule n p holds = cond holds (good tt) (refused n p)

-- "2, first bit of group: group not whole"
abbrev pub whole_group : (bits : List ℕ) (at width : ℕ) → Read Unit
whole_group bits at width = rule 2 at (whole bits at width)

-- n groups of one width, one after the other; each is told how many come after it
unfoldable pub read_many : {A : Type 0} → (width : ℕ) → ((after at : ℕ) → Read A) → (n at : ℕ) → Read (List A)
read_many width read zero at = good []
read_many width read (suc n) at = do
  x ← read n at
  xs ← read_many width read n (at + width)
  good (x ∷ xs)

-- what the head holds: the grid, two penalties and two counts
pub record Head : Type 0 where
  pub grid : Grid
  pub guide : ℕ
  pub short : ℕ
  pub nets : ℕ
  pub obstacles : ℕ

-- "Head, 80 bits: edition 4 (is 1); direction 1; layers minus one 3; columns minus one 8; rows minus one 8;
-- guide penalty 16; short penalty 16; nets 8; obstacles 16."
unfoldable pub head_at : (bits : List ℕ) (at : ℕ) → Head
head_at bits at =
    record {
      grid = record {
        direction = field bits (at + 4) 1;
        layers = suc (field bits (at + 5) 3);
        columns = suc (field bits (at + 8) 8);
        rows = suc (field bits (at + 16) 8);
      };
      guide = field bits (at + 24) 16;
      short = field bits (at + 40) 16;
      nets = field bits (at + 56) 8;
      obstacles = field bits (at + 64) 16;
    }

-- "3, 0: edition not 1"; "4, 8: vertices over 16,384"
unfoldable pub read_head : (bits : List ℕ) → Read Head
read_head bits = do
  whole_group bits 0 80
  rule 3 0 (eqb (field bits 0 4) 1)
  rule 4 8 (leb (vertices (head_at bits 0).grid) 16384)
  good (head_at bits 0)

-- "Layer line, 40 bits: wire price 10; price of the via to the layer above 10; minimum length M in steps 4;
-- area penalty 16."
unfoldable pub layer_at : (bits : List ℕ) (at : ℕ) → Layer
layer_at bits at =
    record {
      wire = field bits at 10;
      via = field bits (at + 10) 10;
      min_length = field bits (at + 20) 4;
      area = field bits (at + 24) 16;
    }

-- "at least 1; 0 on the top layer", where no layer line comes after
unfoldable pub via_rule : (after via : ℕ) → Bool
via_rule after via = cond (eqb after 0) (eqb via 0) (leb 1 via)

-- "5, field: layer line rule broken", field by field
unfoldable pub read_layer : (bits : List ℕ) (after at : ℕ) → Read Layer
read_layer bits after at = do
  whole_group bits at 40
  rule 5 at (leb 1 (layer_at bits at).wire)
  rule 5 (at + 10) (via_rule after (layer_at bits at).via)
  rule 5 (at + 20) (leb 1 (layer_at bits at).min_length)
  good (layer_at bits at)

-- "layer 3, row 8, column 8"
unfoldable pub vertex_at : (bits : List ℕ) (at : ℕ) → Vertex
vertex_at bits at = record { layer = field bits at 3; row = field bits (at + 3) 8; column = field bits (at + 11) 8 }

-- "Obstacle, 27 bits: layer 3, row 8, column 8, run minus one 8"
unfoldable pub obstacle_at : (bits : List ℕ) (at : ℕ) → Obstacle
obstacle_at bits at = record { first = vertex_at bits at; run = suc (field bits (at + 19) 8) }

-- the vertices that an obstacle covers
unfoldable pub covered : Grid → Obstacle → List Vertex
covered g o = run_high g o.first o.run

-- "6, obstacle: any of it outside"
unfoldable pub read_obstacle : (bits : List ℕ) → Grid → (after at : ℕ) → Read Obstacle
read_obstacle bits g after at = do
  whole_group bits at 27
  rule 6 at (all (inside g) (covered g (obstacle_at bits at)))
  good (obstacle_at bits at)

unfoldable pub on_obstacle : Grid → List Obstacle → Vertex → Bool
on_obstacle g obstacles v = any (λ o. any (same v) (covered g o)) obstacles

-- "8, pin: outside or on an obstacle"; "9, pin: same vertex as an earlier pin"
unfoldable pub read_pin : (bits : List ℕ) → Grid → List Obstacle → (earlier : List Vertex) → (at : ℕ) → Read Vertex
read_pin bits g obstacles earlier at = do
  whole_group bits at 19
  rule 8 at (inside g (vertex_at bits at) && not (on_obstacle g obstacles (vertex_at bits at)))
  rule 9 at (not (any (same (vertex_at bits at)) earlier))
  good (vertex_at bits at)

unfoldable pub read_pins : (bits : List ℕ) → Grid → List Obstacle → (earlier : List Vertex) → (n at : ℕ) → Read (List Vertex)
read_pins bits g obstacles earlier zero at = good []
read_pins bits g obstacles earlier (suc n) at = do
  pin ← read_pin bits g obstacles earlier at
  pins ← read_pins bits g obstacles (pin ∷ earlier) n (at + 19)
  good (pin ∷ pins)

-- "boxes of 38 bits (layer low 3, high 3, row low 8, high 8, column low 8, high 8; both ends inside)"
unfoldable pub box_at : (bits : List ℕ) (at : ℕ) → Box
box_at bits at =
    record {
      layer_low = field bits at 3;
      layer_high = field bits (at + 3) 3;
      row_low = field bits (at + 6) 8;
      row_high = field bits (at + 14) 8;
      column_low = field bits (at + 22) 8;
      column_high = field bits (at + 30) 8;
    }

-- on one axis: low not above high, and inside
unfoldable pub good_span : (low high size : ℕ) → Bool
good_span low high size = leb low high && ltb high size

unfoldable pub good_box : Grid → Box → Bool
good_box g b =
    good_span b.layer_low b.layer_high g.layers
    && (good_span b.row_low b.row_high g.rows && good_span b.column_low b.column_high g.columns)

-- "10, box: low above high, or outside"
unfoldable pub read_box : (bits : List ℕ) → Grid → (after at : ℕ) → Read Box
read_box bits g after at = do
  whole_group bits at 38
  rule 10 at (good_box g (box_at bits at))
  good (box_at bits at)

-- "Net: head of 8 bits (pins minus one 4; boxes 4), then pins of 19 bits, then boxes of 38 bits"; "A net of
-- one pin is now accepted"
unfoldable pub read_net : (bits : List ℕ) → Grid → List Obstacle → (earlier : List Vertex) → (at : ℕ) → Read Net
read_net bits g obstacles earlier at = do
  whole_group bits at 8
  pins ← read_pins bits g obstacles earlier (suc (field bits at 4)) (at + 8)
  boxes ← read_many 38 (read_box bits g) (field bits (at + 4) 4) (at + 8 + 19 * length pins)
  good (record { pins = pins; boxes = boxes })

-- the bits that a net takes
unfoldable pub net_width : Net → ℕ
net_width net = 8 + 19 * length net.pins + 38 * length net.boxes

unfoldable pub read_nets : (bits : List ℕ) → Grid → List Obstacle → (earlier : List Vertex) → (n at : ℕ) → Read (List Net)
read_nets bits g obstacles earlier zero at = good []
read_nets bits g obstacles earlier (suc n) at = do
  net ← read_net bits g obstacles earlier at
  nets ← read_nets bits g obstacles (net.pins ++ earlier) n (at + net_width net)
  good (net ∷ nets)

unfoldable pub nets_width : List Net → ℕ
nets_width [] = 0
nets_width (net ∷ nets) = net_width net + nets_width nets

-- "11, bit after last field: tail bit set or more bytes": "Zero bits fill the last byte and nothing follows."
unfoldable pub read_tail : (bits : List ℕ) (at : ℕ) → Read Unit
read_tail bits at = rule 11 at (ltb (length bits - at) 8 && eqb (number (drop at bits)) 0)

-- where the obstacles and the nets begin
unfoldable pub obstacles_at : Head → ℕ
obstacles_at head = 80 + 40 * head.grid.layers

unfoldable pub nets_at : Head → ℕ
nets_at head = obstacles_at head + 27 * head.obstacles

-- layer lines, obstacles, nets and tail
unfoldable pub read_after_head : (bits : List ℕ) → Head → Read Job
read_after_head bits head = do
  lines ← read_many 40 (read_layer bits) head.grid.layers 80
  obstacles ← read_many 27 (read_obstacle bits head.grid) head.obstacles (obstacles_at head)
  nets ← read_nets bits head.grid obstacles [] head.nets (nets_at head)
  read_tail bits (nets_at head + nets_width nets)
  good (record {
    grid = head.grid;
    guide = head.guide;
    short = head.short;
    lines = lines;
    obstacles = obstacles;
    nets = nets;
  })

-- "1, 0: job over 262,144 bytes"
unfoldable pub read_job : (bytes : List ℕ) → Read Job
read_job bytes = do
  rule 1 0 (leb (length bytes) 262144)
  head ← read_head (bits_of bytes)
  read_after_head (bits_of bytes) head
