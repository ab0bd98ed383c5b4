-- Numbers of a vertex that fit a word.
--     fits                           a vertex of a small grid, and the divisors that take it apart
--     low_by, down_by                what a move low or down takes off is no more than the vertex
--     enters_none                    a number that is no move's
--     track_read, track_known        what the code has read of a vertex and its track
--     layer_known                    a vertex's layer is below 8
--     entered_outside, entered_at    what was entered, from the code's form
use Prim.Native.Nat.{ℕ, zero, suc, ◌+◌, ◌-◌, ◌*◌, ◌≤◌, ◌<◌}
use mathlib.Core.Path.{◌≡◌, refl, ap, ◌∙◌}
use mathlib.Core.Bool.{Bool, true, false, cond}
use native.Mathlib.Omega.{arith}
use Rattle.std.proofs.Common.{Some, None}
use lib.Dec.{ltb}
use Rattle.job.specs.Grid.{Grid, steps_column, stride_of}
use Rattle.job.specs.Structs.{Small, grid_of, vertex_of, vertex_struct}
use Rattle.job.specs.declared.grid.Grid.{Grid as GridStruct}
use Rattle.job.specs.declared.grid.Vertex.{Vertex as VertexStruct}
use Rattle.job.proofs.Sizes.{product_within, small_vertices}
use Rattle.rules.specs.Tracks.{layer_of, vertex_by, track_index, track_length, Entered, outside, at, if_there, entered}
use Rattle.rules.specs.Structs.{OnGrid, entered_of, track_of}
use Rattle.rules.specs.Charging.{Here}
use Rattle.rules.specs.declared.track.Track.{Track}
use Rattle.rules.specs.declared.price.Prices.{Prices}
use Rattle.rules.proofs.Vertices.{vertex_below}
use Rattle.rules.proofs.Neighbours.{index_below, low_enters, down_enters}

pub record VertexFits (g : GridStruct) (v : ℕ) : Type 0 where
  pub columns : 0 < g.columns
  pub rows : 0 < g.rows
  pub some : 0 < g.rows * g.columns
  pub level : g.rows * g.columns ≤ 65536
  pub layer : layer_of (grid_of g) v < 8
  pub vertex : v < 524288

-- a vertex of a small grid, and the divisors that take it apart
pub fits : (g : GridStruct) (v : ℕ) → OnGrid g v → VertexFits g v
fits g v on =
    let b = vertex_below (grid_of g) on.there in
    let columns : 0 < g.columns = omega (arith, b.column) in
    let rows : 0 < g.rows = omega (arith, b.row) in
    record {
      columns = columns;
      rows = rows;
      some = product_within g.rows g.columns rows columns;
      level = product_within 256 256 on.small.rows on.small.columns;
      layer = omega (arith, b.layer, on.small.layers);
      vertex = omega (arith, on.there, small_vertices g on.small);
    }

-- a step low takes off no more than the vertex
pub low_by : (g : GridStruct) (v : ℕ) → OnGrid g v → ltb 0 (track_index (grid_of g) v) ≡ true → stride_of (grid_of g) (layer_of (grid_of g) v) ≤ v
unfolding entered if_there
low_by g v on h =
    let w = v - stride_of (grid_of g) (layer_of (grid_of g) v) in
    let one = low_enters (grid_of g) {w = w} on.there (rw h refl) in
    let same : stride_of (grid_of g) (layer_of (grid_of g) v) ≡ stride_of (grid_of g) (layer_of (grid_of g) w) = ap (stride_of (grid_of g)) one.layer in
    omega (arith, one.number, same)

-- a move down takes off no more than the vertex
pub down_by : (g : GridStruct) (v : ℕ) → OnGrid g v → ltb 0 (layer_of (grid_of g) v) ≡ true → g.rows * g.columns ≤ v
unfolding entered if_there
down_by g v on h =
    let one = down_enters (grid_of g) {w = v - g.rows * g.columns} on.there (rw h refl) in
    omega (arith, one.number)

-- what the code has read of a vertex and its track
pub record TrackRead (g : GridStruct) (v : ℕ) (from : VertexStruct) (track : Track) : Type 0 where
  pub layer : from.layer ≡ layer_of (grid_of g) v
  pub index : track.index ≡ track_index (grid_of g) v
  pub length : track.length ≡ track_length (grid_of g) v
  pub stride : track.stride ≡ stride_of (grid_of g) (layer_of (grid_of g) v)
  pub on_track : track.index < track.length
  pub index_fits : track.index < 256
  pub stride_fits : track.stride ≤ 256

-- a number that is no move's enters nothing
pub enters_none : (g : Grid) (v number : ℕ) → (number ≡ 0 → ⊥) → (number ≡ 1 → ⊥) → (number ≡ 2 → ⊥) → (number ≡ 3 → ⊥)
    → entered g v number ≡ outside
unfolding entered
enters_none g v zero n0 n1 n2 n3 = absurd (n0 refl)
enters_none g v (suc zero) n0 n1 n2 n3 = absurd (n1 refl)
enters_none g v (suc (suc zero)) n0 n1 n2 n3 = absurd (n2 refl)
enters_none g v (suc (suc (suc zero))) n0 n1 n2 n3 = absurd (n3 refl)
enters_none g v (suc (suc (suc (suc n)))) n0 n1 n2 n3 = refl

-- a number and 1
pub one_more : (n : ℕ) → n + 1 ≡ suc n
one_more n = omega arith

-- a choice of two numbers below a limit is below it
pub either_below : (b : Bool) {x y limit : ℕ} → x < limit → y < limit → cond b x y < limit
either_below true hx hy = hx
either_below false hx hy = hy

-- a stride is small
pub stride_fits_lem : (g : GridStruct) (layer : ℕ) → Small g → stride_of (grid_of g) layer ≤ 256
unfolding stride_of
stride_fits_lem g layer small =
    let below = either_below (steps_column (grid_of g) layer) {x = 1} {y = g.columns} {limit = 257} (omega arith) (omega (arith, small.columns)) in
    omega (arith, below)

pub track_read : (g : GridStruct) (v : ℕ) {from : VertexStruct} {track : Track} → OnGrid g v → from ≡ vertex_struct (vertex_by (grid_of g) v)
    → track ≡ track_of (grid_of g) (vertex_of from) → TrackRead g v from track
unfolding track_index track_length stride_of
track_read g v {from} {track} on isFrom isTrack =
    let whole : track ≡ track_of (grid_of g) (vertex_by (grid_of g) v) = isTrack ∙ ap (λ (x : VertexStruct). track_of (grid_of g) (vertex_of x)) isFrom in
    let b = vertex_below (grid_of g) on.there in
    let index : track.index ≡ track_index (grid_of g) v = ap (λ (t : Track). t.index) whole in
    let length : track.length ≡ track_length (grid_of g) v = ap (λ (t : Track). t.length) whole in
    let stride : track.stride ≡ stride_of (grid_of g) (layer_of (grid_of g) v) = ap (λ (t : Track). t.stride) whole in
    let columns = steps_column (grid_of g) (layer_of (grid_of g) v) in
    record {
      layer = ap (λ (x : VertexStruct). x.layer) isFrom;
      index = index;
      length = length;
      stride = stride;
      on_track = rw (index, length) (index_below (grid_of g) (vertex_by (grid_of g) v) b);
      index_fits = rw index (either_below columns (omega (arith, b.column, on.small.columns)) (omega (arith, b.row, on.small.rows)));
      stride_fits = rw stride (stride_fits_lem g _ on.small);
    }

-- the track of a vertex by its number
pub track_known : {g : GridStruct} {v : ℕ} {track : Track} → OnGrid g v → track ≡ track_of (grid_of g) (vertex_by (grid_of g) v)
    → TrackRead g v (vertex_struct (vertex_by (grid_of g) v)) track
track_known {g} {v} on is = track_read g v on refl is

-- a vertex's layer, as the code has read it, is below 8
pub layer_known : {p : Prices} {v : ℕ} {from : VertexStruct} → Here p v from → from.layer < 8
layer_known {p} {v} h =
    rw h.is (fits p.tech.grid v (record { small = p.fits.sized.small; there = h.there })).layer

-- ---- what was entered, from the code's form

-- nothing
pub entered_outside : (e : Entered) → entered_of e ≡ None → e ≡ outside
unfolding entered_of
entered_outside outside h = refl
entered_outside (at w) h = cc

-- a vertex
pub entered_at : (e : Entered) {w : ℕ} → entered_of e ≡ Some w → e ≡ at w
unfolding entered_of
entered_at outside h = cc
entered_at (at v) h = cc
