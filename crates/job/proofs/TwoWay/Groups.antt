-- One law a group: reading it gives a good value exactly where the value's bits stand there and its rules
-- hold.
--     layer_fields .. box_fields                     the fields of each group, in order
--     inside_fits .. obstacle_fits                   what is inside a good grid fits its fields
--     layer_placed .. obstacle_placed                a group stands there and fits, where it is whole and is
--                                                    the one that is read
--     layer_read_lem, box_read, obstacle_read_lem    the law, for one
--     lines_read, boxes_read, obstacles_read         the law, for so many one after the other
-- Not here: the head (Heads), pins and nets (Nets).
use Prim.Native.Nat.{ℕ, zero, suc, ◌+◌, ◌-◌, ◌≤◌}
use native.Mathlib.Omega.{arith}
use mathlib.Core.Path.{◌≡◌, refl}
use mathlib.Core.Logic.Iff
use mathlib.Core.Logic.{◌↔◌}
use mathlib.Core.List.{List, [], ◌∷◌, append_assoc, append-nil, flat_map}
use lib.ListN.{length}
use lib.Dec.{T, lit<}
use Rattle.bits.specs.Bits.{field, whole, group_bits}
use Rattle.bits.specs.Puts.{AllBelow}
use Rattle.job.specs.Lists.{all, All}
use Rattle.job.specs.Grid.{Grid, Vertex, inside, run_high}
use Rattle.job.specs.Job.{Layer, Obstacle, Box}
use Rattle.job.specs.Reading.{good, layer_at, read_layer, vertex_at, obstacle_at, covered, read_obstacle, box_at, good_span, good_box, read_box}
use Rattle.job.specs.Reading.{read_many}
use Rattle.job.specs.Packing.{layer_bits, vertex_bits, obstacle_bits, box_bits}
use Rattle.job.specs.Good.{GoodGrid, GoodLayer, GoodLines, GoodObstacle}
use Rattle.job.proofs.Tests.{and_holds, tests}
use Rattle.job.proofs.Binds.{steps}
use Rattle.job.proofs.TwoWay.Widths.{layer_bits_lem, obstacle_bits_lem, box_bits_lem}
use Rattle.job.proofs.TwoWay.Many.{groups_read}
use Rattle.job.proofs.TwoWay.Places.{Placed, Fits, FieldsAt, widths, group-placed}

-- the fields of a layer line
abbrev layer_fields : Layer → List (ℕ × ℕ)
layer_fields l = (10, l.wire) ∷ (10, l.via) ∷ (4, l.min_length) ∷ (16, l.area) ∷ []

-- the fields of a vertex
abbrev vertex_fields : Vertex → List (ℕ × ℕ)
vertex_fields v = (3, v.layer) ∷ (8, v.row) ∷ (8, v.column) ∷ []

-- the fields of an obstacle
abbrev obstacle_fields : Obstacle → List (ℕ × ℕ)
obstacle_fields o = (3, o.first.layer) ∷ (8, o.first.row) ∷ (8, o.first.column) ∷ (8, o.run - 1) ∷ []

-- the fields of a box
abbrev box_fields : Box → List (ℕ × ℕ)
box_fields b = (3, b.layer_low) ∷ (3, b.layer_high) ∷ (8, b.row_low) ∷ (8, b.row_high) ∷ (8, b.column_low) ∷ (8, b.column_high) ∷ []

-- an obstacle's bits are those of its fields
obstacle_group_lem : (o : Obstacle) → obstacle_bits o ≡ group_bits (obstacle_fields o)
unfolding obstacle_bits vertex_bits group_bits
obstacle_group_lem o = simp (append_assoc, append-nil)

module _ (g : Grid) (small : GoodGrid g) where
  -- a vertex inside fits its fields
  pub inside_fits : (v : Vertex) → T (inside g v) → Fits (vertex_fields v)
  unfolding inside
  inside_fits v t = let h = simp tests at t in omega arith

  -- a good box fits its fields
  pub box_fits : (b : Box) → T (good_box g b) → Fits (box_fields b)
  unfolding good_box good_span
  box_fits b t = let h = simp tests at t in omega arith

  -- where a run of vertices is inside, so is its first
  first_inside : (v : Vertex) (n : ℕ) → 1 ≤ n → T (all (inside g) (run_high g v n)) → T (inside g v)
  unfolding all run_high
  first_inside v zero h t = absurd (omega arith)
  first_inside v (suc n) h t = ((and_holds (inside g v) _).0 t).0

  -- a good obstacle fits its fields
  obstacle_fits : (o : Obstacle) → GoodObstacle g o → Fits (obstacle_fields o)
  unfolding covered
  obstacle_fits o good-o = let h = inside_fits o.first (first_inside o.first o.run good-o.some_run good-o.inside) in omega arith

module _ (B : List ℕ) (bits : AllBelow 2 B) where
  -- a layer line stands there and fits, where it is whole and is the one that is read
  layer_placed : (at : ℕ) (l : Layer) → (Placed B at (layer_bits l) × Fits (layer_fields l)) ↔ (T (whole B at 40) × (layer_at B at ≡ l))
  unfolding layer_bits layer_at widths
  layer_placed at l = Iff.trans (group-placed B at bits (layer_fields l) (lit< tt)) (Iff.and Iff.rfl (made, taken))
    where
      made : FieldsAt B at (layer_fields l) → layer_at B at ≡ l
      made h = λ i. record { wire = h.0 i; via = h.1.0 i; min_length = h.1.1.0 i; area = h.1.1.1.0 i }

      taken : layer_at B at ≡ l → FieldsAt B at (layer_fields l)
      taken e = (cc, (cc, (cc, (cc, tt))))

  -- reading a layer line
  layer_read_lem : (after at : ℕ) (l : Layer) → (read_layer B after at ≡ good l) ↔ (Placed B at (layer_bits l) × GoodLayer after l)
  unfolding read_layer
  layer_read_lem after at l =
      simp (steps, tests) (
        λ (w, (wire, (via, (len, e)))).
            let p = (layer_placed at l).1 (w, e) in (
              p.0,
              record {
                some_wire = rw e at wire;
                wire = p.1.0;
                via = p.1.1.0;
                via_rule = rw e at via;
                some_length = rw e at len;
                min_length = p.1.1.1.0;
                area = p.1.1.1.1.0;
              },
            ),
        λ (p, g).
            let r = (layer_placed at l).0 (p, (g.wire, (g.via, (g.min_length, (g.area, tt))))) in
            rw r.1 (r.0, (g.some_wire, (g.via_rule, (g.some_length, refl)))),
      )

  -- reading the layer lines
  pub lines_read : (n at : ℕ) (ls : List Layer)
      → (read_many 40 (read_layer B) n at ≡ good ls) ↔ ((length ls ≡ n) × (Placed B at (flat_map layer_bits ls) × GoodLines ls))
  unfolding GoodLines
  lines_read = groups_read B 40 layer_bits layer_bits_lem (read_layer B) GoodLayer layer_read_lem GoodLines tt (λ l ls. Iff.rfl)

  -- a vertex stands there and fits, where it is whole and is the one that is read
  pub vertex_placed : (at : ℕ) (v : Vertex) → (Placed B at (vertex_bits v) × Fits (vertex_fields v)) ↔ (T (whole B at 19) × (vertex_at B at ≡ v))
  unfolding vertex_bits vertex_at widths
  vertex_placed at v = Iff.trans (group-placed B at bits (vertex_fields v) (lit< tt)) (Iff.and Iff.rfl (made, taken))
    where
      made : FieldsAt B at (vertex_fields v) → vertex_at B at ≡ v
      made h = λ i. record { layer = h.0 i; row = h.1.0 i; column = h.1.1.0 i }

      taken : vertex_at B at ≡ v → FieldsAt B at (vertex_fields v)
      taken e = (cc, (cc, (cc, tt)))

  -- a box stands there and fits, where it is whole and is the one that is read
  pub box_placed : (at : ℕ) (b : Box) → (Placed B at (box_bits b) × Fits (box_fields b)) ↔ (T (whole B at 38) × (box_at B at ≡ b))
  unfolding box_bits box_at widths
  box_placed at b = Iff.trans (group-placed B at bits (box_fields b) (lit< tt)) (Iff.and Iff.rfl (made, taken))
    where
      made : FieldsAt B at (box_fields b) → box_at B at ≡ b
      made h =
          λ i. record {
            layer_low = h.0 i;
            layer_high = h.1.0 i;
            row_low = h.1.1.0 i;
            row_high = h.1.1.1.0 i;
            column_low = h.1.1.1.1.0 i;
            column_high = h.1.1.1.1.1.0 i;
          }

      taken : box_at B at ≡ b → FieldsAt B at (box_fields b)
      taken e = (cc, (cc, (cc, (cc, (cc, (cc, tt))))))

  -- an obstacle of at least one vertex stands there and fits, where it is whole and is the one that is read
  obstacle_placed : (at : ℕ) (o : Obstacle)
      → (Placed B at (obstacle_bits o) × (Fits (obstacle_fields o) × (1 ≤ o.run))) ↔ (T (whole B at 27) × (obstacle_at B at ≡ o))
  unfolding obstacle_at vertex_at widths
  obstacle_placed at o =
      rw obstacle_group_lem (
        λ (p, (f, r)). let h = both.0 (p, f) in (h.0, made r h.1),
        λ (w, e). let p = both.1 (w, taken e) in (p.0, (p.1, some e)),
      )
    where
      both : (Placed B at (group_bits (obstacle_fields o)) × Fits (obstacle_fields o)) ↔ (T (whole B at 27) × FieldsAt B at (obstacle_fields o))
      both = group-placed B at bits (obstacle_fields o) (lit< tt)

      made : 1 ≤ o.run → FieldsAt B at (obstacle_fields o) → obstacle_at B at ≡ o
      made r h =
          let run : suc (field B (at + 19) 8) ≡ o.run = omega arith in
          λ i. record { first = record { layer = h.0 i; row = h.1.0 i; column = h.1.1.0 i }; run = run i }

      some : obstacle_at B at ≡ o → 1 ≤ o.run
      some e = let run : suc (field B (at + 19) 8) ≡ o.run = cc in omega arith

      taken : obstacle_at B at ≡ o → FieldsAt B at (obstacle_fields o)
      taken e =
          let run : suc (field B (at + 19) 8) ≡ o.run = cc in
          (λ i. (e i).first.layer, (λ i. (e i).first.row, (λ i. (e i).first.column, (omega arith, tt))))

  module _ (g : Grid) (small : GoodGrid g) where
    -- reading a box
    box_read : (after at : ℕ) (b : Box) → (read_box B g after at ≡ good b) ↔ (Placed B at (box_bits b) × T (good_box g b))
    unfolding read_box
    box_read after at b =
        simp steps (
          λ (w, (t, e)). (((box_placed at b).1 (w, e)).0, rw e at t),
          λ (p, t). let r = (box_placed at b).0 (p, box_fits g small b t) in rw r.1 (r.0, (t, refl)),
        )

    -- reading an obstacle
    obstacle_read_lem : (after at : ℕ) (o : Obstacle) → (read_obstacle B g after at ≡ good o) ↔ (Placed B at (obstacle_bits o) × GoodObstacle g o)
    unfolding read_obstacle
    obstacle_read_lem after at o =
        simp steps (
          λ (w, (t, e)).
              let p = (obstacle_placed at o).1 (w, e) in
              (p.0, record { some_run = p.1.1; run = omega arith; inside = rw e at t }),
          λ (p, good-o).
              let r = (obstacle_placed at o).0 (p, (obstacle_fits g small o good-o, good-o.some_run)) in
              rw r.1 (r.0, (good-o.inside, refl)),
        )

    -- reading the boxes of a net
    pub boxes_read : (n at : ℕ) (bs : List Box)
        → (read_many 38 (read_box B g) n at ≡ good bs) ↔ ((length bs ≡ n) × (Placed B at (flat_map box_bits bs) × All (λ b. T (good_box g b)) bs))
    unfolding All
    boxes_read = groups_read B 38 box_bits box_bits_lem (read_box B g) (λ after b. T (good_box g b)) box_read (All (λ b. T (good_box g b))) tt (λ b bs. Iff.rfl)

    -- reading the obstacles
    pub obstacles_read : (n at : ℕ) (os : List Obstacle)
        → (read_many 27 (read_obstacle B g) n at ≡ good os) ↔ ((length os ≡ n) × (Placed B at (flat_map obstacle_bits os) × All (GoodObstacle g) os))
    unfolding All
    obstacles_read =
        groups_read B 27 obstacle_bits obstacle_bits_lem (read_obstacle B g) (λ after. GoodObstacle g) obstacle_read_lem (All (GoodObstacle g)) tt (λ o os. Iff.rfl)
