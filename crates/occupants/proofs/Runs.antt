-- Covering a run.
--     cover_every_lem    covering a run is covering a stride apart
--     run_inside         the vertices of a run inside lie in the array
use Prim.Native.Nat.{ℕ, zero, suc, ◌≤◌}
use mathlib.Core.Path.{◌≡◌, refl, ap}
use mathlib.Core.List.{List}
use native.Mathlib.Omega.{arith}
use lib.ListN.{set}
use lib.Dec.{T}
use Rattle.job.specs.Lists.{all}
use Rattle.job.specs.Grid.{Grid, Vertex, vertices, vertex_number, inside, next_high, run_high, stride_of}
use Rattle.occupants.specs.Occupants.{cover_all, cover_every, RunInside}
use Rattle.job.proofs.Tests.{and_holds}
use Rattle.job.proofs.Grids.{next_layer, number_next, number_below}

-- covering a run is covering a stride apart
pub cover_every_lem : (g : Grid) (v : Vertex) (n : ℕ) (m : List ℕ)
    → cover_all g (run_high g v n) m ≡ cover_every (stride_of g v.layer) n (vertex_number g v) m
unfolding cover_all cover_every run_high
cover_every_lem g v zero m = refl
cover_every_lem g v (suc n) m = rw (number_next g v, ap (stride_of g) (next_layer g v)) at (cover_every_lem g (next_high g v) n (set m (vertex_number g v) 1))

-- the vertices of a run inside lie in the array
pub run_inside : (g : Grid) (v : Vertex) (n : ℕ) → vertices g ≤ 16384 → T (all (inside g) (run_high g v n))
    → RunInside (stride_of g v.layer) n (vertex_number g v)
unfolding all run_high RunInside
run_inside g v zero small h = tt
run_inside g v (suc n) small h =
    let parts = (and_holds (inside g v) (all (inside g) (run_high g (next_high g v) n))).0 h in
    let low = number_below g v parts.0 in
    (omega arith, rw (number_next g v, ap (stride_of g) (next_layer g v)) at (run_inside g (next_high g v) n small parts.1))
