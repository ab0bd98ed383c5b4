-- The head: reading it gives a good head exactly where the head's bits stand first and its rules hold.
--     head_fields, GoodHead    the head's fields, in order; its rules
--     head_fits, head_held     a good head fits its fields; the fields hold the head that is read
--     head_read_lem            the law
use Prim.Native.Nat.{ℕ, suc, ◌-◌, ◌^◌, ◌≤◌, ◌<◌}
use native.Mathlib.Omega.{arith}
use mathlib.Core.Path.{◌≡◌, refl}
use mathlib.Core.Logic.{◌↔◌}
use mathlib.Core.List.{List, [], ◌∷◌}
use lib.Dec.{T, lit<}
use Rattle.bits.specs.Bits.{field, whole, group_bits}
use Rattle.bits.specs.Puts.{AllBelow}
use Rattle.job.specs.Grid.{Grid}
use Rattle.job.specs.Reading.{good, Head, head_at, read_head}
use Rattle.job.specs.Good.{GoodGrid}
use Rattle.job.proofs.Tests.{tests}
use Rattle.job.proofs.Binds.{steps}
use Rattle.job.proofs.TwoWay.Places.{Placed, Fits, FieldsAt, widths, group-placed}

-- the head's fields, in order
abbrev pub head_fields : Head → List (ℕ × ℕ)
head_fields h =
    (4, 1) ∷ (1, h.grid.direction) ∷ (3, h.grid.layers - 1) ∷ (8, h.grid.columns - 1) ∷ (8, h.grid.rows - 1)
    ∷ (16, h.guide) ∷ (16, h.short) ∷ (8, h.nets) ∷ (16, h.obstacles) ∷ []

-- a good grid, and numbers that fit their fields
pub record GoodHead (h : Head) : Type 0 where
  pub grid : GoodGrid h.grid
  pub guide : h.guide < 2 ^ 16
  pub short : h.short < 2 ^ 16
  pub nets : h.nets < 2 ^ 8
  pub obstacles : h.obstacles < 2 ^ 16

-- at least one layer, column and row
record Some (g : Grid) : Type 0 where
  layers : 1 ≤ g.layers
  columns : 1 ≤ g.columns
  rows : 1 ≤ g.rows

-- a good head fits its fields
head_fits : (h : Head) → GoodHead h → Fits (head_fields h)
head_fits h good-h = omega arith

module _ (B : List ℕ) (bits : AllBelow 2 B) where
  -- the head's fields hold a head, where it is the one that is read and the edition is 1
  head_held : (h : Head) → (FieldsAt B 0 (head_fields h) × Some h.grid) ↔ ((field B 0 4 ≡ 1) × (head_at B 0 ≡ h))
  unfolding head_at
  head_held h = (made, taken)
    where
      made : FieldsAt B 0 (head_fields h) × Some h.grid → (field B 0 4 ≡ 1) × (head_at B 0 ≡ h)
      made (f, some) =
          let layers : suc (field B 5 3) ≡ h.grid.layers = omega arith in
          let columns : suc (field B 8 8) ≡ h.grid.columns = omega arith in
          let rows : suc (field B 16 8) ≡ h.grid.rows = omega arith in (
            f.0,
            λ i. record {
              grid = record { direction = f.1.0 i; layers = layers i; columns = columns i; rows = rows i };
              guide = f.1.1.1.1.1.0 i;
              short = f.1.1.1.1.1.1.0 i;
              nets = f.1.1.1.1.1.1.1.0 i;
              obstacles = f.1.1.1.1.1.1.1.1.0 i;
            },
          )

      taken : (field B 0 4 ≡ 1) × (head_at B 0 ≡ h) → FieldsAt B 0 (head_fields h) × Some h.grid
      taken (edition, e) =
          let direction : field B 4 1 ≡ h.grid.direction = λ i. (e i).grid.direction in
          let layers : suc (field B 5 3) ≡ h.grid.layers = λ i. (e i).grid.layers in
          let columns : suc (field B 8 8) ≡ h.grid.columns = λ i. (e i).grid.columns in
          let rows : suc (field B 16 8) ≡ h.grid.rows = λ i. (e i).grid.rows in
          let guide : field B 24 16 ≡ h.guide = λ i. (e i).guide in
          let short : field B 40 16 ≡ h.short = λ i. (e i).short in
          let nets : field B 56 8 ≡ h.nets = λ i. (e i).nets in
          let obstacles : field B 64 16 ≡ h.obstacles = λ i. (e i).obstacles in
          omega arith

  -- reading the head
  pub head_read_lem : (h : Head) → (read_head B ≡ good h) ↔ (Placed B 0 (group_bits (head_fields h)) × GoodHead h)
  unfolding read_head widths
  head_read_lem h =
      simp (steps, tests) (
        λ (w, (edition, (v, e))).
            let held = (head_held h).1 (edition, e) in
            let p = both.1 (w, held.0) in (
              p.0,
              record {
                grid = record {
                  direction = p.1.1.0;
                  some_layers = held.1.layers;
                  layers = omega arith;
                  some_columns = held.1.columns;
                  columns = omega arith;
                  some_rows = held.1.rows;
                  rows = omega arith;
                  vertices = rw e at v;
                };
                guide = p.1.1.1.1.1.1.0;
                short = p.1.1.1.1.1.1.1.0;
                nets = p.1.1.1.1.1.1.1.1.0;
                obstacles = p.1.1.1.1.1.1.1.1.1.0;
              },
            ),
        λ (p, good-h).
            let g = good-h.grid in
            let f = both.0 (p, head_fits h good-h) in
            let e = (head_held h).0 (f.1, record { layers = g.some_layers; columns = g.some_columns; rows = g.some_rows }) in
            (f.0, (e.0, rw e.1 (g.vertices, refl))),
      )
    where
      both : (Placed B 0 (group_bits (head_fields h)) × Fits (head_fields h)) ↔ (T (whole B 0 80) × FieldsAt B 0 (head_fields h))
      both = group-placed B 0 bits (head_fields h) (lit< tt)
