-- The map at the end: codes of the metal, with the obstacles put in.
--     obstacles_beyond    past its need the slice is as found
--     obstacles_at_lem    257 at an obstacle's occupant, else the code that was there
--     length-map          the map has a code for each vertex
--     map_finished        it is the map of the job
use Prim.Native.Nat.{ℕ, zero, suc, ◌+◌, ◌≤◌, ◌<◌}
use mathlib.Core.Path.{◌≡◌, refl, sym, ap, ◌∙◌}
use mathlib.Core.Logic.{◌⊎◌, inl, inr}
use mathlib.Core.List.{List, ◌++◌}
use mathlib.Core.Bool.{Bool, true, false, cond}
use native.Mathlib.Nat.{not-suc-le-zero, le_of_suc-le-suc, eq-or-lt_of_le, add-zero}
use native.Mathlib.Omega.{arith}
use lib.ListN.{length, get_or, set, take, drop, take-append-drop}
use lib.Seq.{length-take-le, get_or-take, get_or-set_same, get_or-set_other, ext_get_or}
use lib.Dec.{eqb}
use Rattle.job.specs.Lists.{any}
use Rattle.job.specs.Grid.{Grid, Vertex, vertices, same}
use Rattle.job.specs.Job.{Job, Obstacle}
use Rattle.job.specs.Reading.{on_obstacle}
use Rattle.job.proofs.Grids.{below_inside}
use Rattle.occupants.specs.Occupants.{Occupants, occupant_of}
use Rattle.rules.specs.Tracks.{vertex_by}
use Rattle.rules.specs.Maps.{map_code, codes_below, map_of}
use Rattle.rules.proofs.Vertices.{number_vertex, vertex_below}
use Rattle.metal.specs.Codes.{Codes, Beyond, with_obstacles}
use Rattle.metal.proofs.Slices.{beyond_refl, beyond_trans, beyond_store, beyond_at}

-- putting obstacles into the first n leaves the rest as found
pub obstacles_beyond : (occupants : List ℕ) (m n : ℕ) (codes : List ℕ) → n ≤ m → Beyond m (with_obstacles occupants n codes) codes
unfolding with_obstacles
obstacles_beyond occupants m zero codes h = beyond_refl m codes
obstacles_beyond occupants m (suc n) codes h = by (eqb (get_or occupants n 0) 1) (obstacles_beyond occupants m n codes (omega arith))
  where
    by : (b : Bool) → Beyond m (with_obstacles occupants n codes) codes
        → Beyond m (cond b (set (with_obstacles occupants n codes) n 257) (with_obstacles occupants n codes)) codes
    by true rest = beyond_trans (beyond_store m n 257 (with_obstacles occupants n codes) h) rest
    by false rest = rest

-- 257 at an obstacle's occupant, else the code that was there
pub obstacles_at_lem : (occupants : List ℕ) (n : ℕ) (codes : List ℕ) (v : ℕ) → v < n → n ≤ length codes
    → get_or (with_obstacles occupants n codes) v 0 ≡ cond (eqb (get_or occupants v 0) 1) 257 (get_or codes v 0)
unfolding with_obstacles
obstacles_at_lem occupants zero codes v h on = absurd (not-suc-le-zero h)
obstacles_at_lem occupants (suc n) codes v h on = by (eq-or-lt_of_le (le_of_suc-le-suc h)) (λ below. obstacles_at_lem occupants n codes v below (omega arith))
  where
    so_far : List ℕ
    so_far = with_obstacles occupants n codes

    kept : Beyond n so_far codes
    kept = obstacles_beyond occupants n n codes (omega arith)

    here : (b : Bool) → get_or (cond b (set so_far n 257) so_far) n 0 ≡ cond b 257 (get_or codes n 0)
    here true = get_or-set_same so_far n 257 0 (omega (arith, on, kept.size))
    here false = beyond_at n kept (omega arith)

    there : (b : Bool) → v < n → get_or (cond b (set so_far n 257) so_far) v 0 ≡ get_or so_far v 0
    there true below = get_or-set_other so_far n v 257 0 (λ e. omega (arith, e, below))
    there false below = refl

    by : (v ≡ n) ⊎ (v < n) → (v < n → get_or so_far v 0 ≡ cond (eqb (get_or occupants v 0) 1) 257 (get_or codes v 0))
        → get_or (cond (eqb (get_or occupants n 0) 1) (set so_far n 257) so_far) v 0 ≡ cond (eqb (get_or occupants v 0) 1) 257 (get_or codes v 0)
    by (inl e) rest = rw e (here (eqb (get_or occupants n 0) 1))
    by (inr below) rest = there (eqb (get_or occupants n 0) 1) below ∙ rest below

-- ---- the map of a job

module _ (j : Job) (metal : List (List ℕ)) where
  -- as many codes as are asked for
  length_codes : (from n : ℕ) → length (codes_below j metal from n) ≡ n
  unfolding codes_below
  length_codes from zero = refl
  length_codes from (suc n) = ap suc (length_codes (suc from) n)

  -- the map has a code for each vertex
  pub length-map : length (map_of j metal) ≡ vertices j.grid
  unfolding map_of
  length-map = length_codes 0 (vertices j.grid)

  -- one of them
  code_at : (from n i : ℕ) → i < n → get_or (codes_below j metal from n) i 0 ≡ map_code j metal (from + i)
  unfolding codes_below
  code_at from zero i h = absurd (not-suc-le-zero h)
  code_at from (suc n) zero h = rw add-zero
  code_at from (suc n) (suc i) h =
      let position : suc from + i ≡ from + suc i = omega arith in
      code_at (suc from) n i (le_of_suc-le-suc h) ∙ ap (map_code j metal) position

-- a vertex has an obstacle's occupant where it is on an obstacle
obstacle_occupant : (g : Grid) (obstacles : List Obstacle) (pins : List Vertex) (occupants : List ℕ) (v : ℕ) → Occupants g obstacles pins occupants → v < vertices g
    → eqb (get_or occupants v 0) 1 ≡ on_obstacle g obstacles (vertex_by g v)
unfolding occupant_of
obstacle_occupant g obstacles pins occupants v says h =
    let x = vertex_by g v in
    let occupant : get_or occupants v 0 ≡ occupant_of g obstacles pins x = rw (number_vertex g v) at (says.says x (below_inside g x (vertex_below g h))) in
    rw occupant (by (on_obstacle g obstacles x) (any (same x) pins))
  where
    by : (b c : Bool) → eqb (cond b 1 (cond c 2 0)) 1 ≡ b
    by true c = refl
    by false true = refl
    by false false = refl

-- codes of the metal, with the obstacles put in, are the map of the job, and past its need the slice is as
-- found
pub map_finished : (j : Job) (metal : List (List ℕ)) {pins : List Vertex} (occupants codes found : List ℕ) → Occupants j.grid j.obstacles pins occupants
    → vertices j.grid ≤ length found → Codes j.grid metal codes → Beyond (vertices j.grid) codes found
    → with_obstacles occupants (vertices j.grid) codes ≡ map_of j metal ++ drop (vertices j.grid) found
unfolding Codes map_of map_code
map_finished j metal {pins} occupants codes found says long held kept =
    sym (take-append-drop n whole) ∙ rw (need, rest.rest)
  where
    n : ℕ
    n = vertices j.grid

    whole : List ℕ
    whole = with_obstacles occupants n codes

    rest : Beyond n whole found
    rest = beyond_trans (obstacles_beyond occupants n n codes (omega arith)) kept

    size : length (take n whole) ≡ n
    size = length-take-le n whole (omega (arith, long, rest.size))

    at : (i : ℕ) → i < n → get_or whole i 0 ≡ map_code j metal i
    at i h =
        obstacles_at_lem occupants n codes i h (omega (arith, long, kept.size))
        ∙ rw (obstacle_occupant j.grid j.obstacles pins occupants i says h, held i h)

    need : take n whole ≡ map_of j metal
    need = ext_get_or 0 (take n whole) (map_of j metal) (size ∙ sym (length_codes j metal 0 n)) (λ i on.
        let h : i < n = omega (arith, on, size) in
        let position : i ≡ 0 + i = omega arith in
        get_or-take n whole i 0 h ∙ at i h ∙ ap (map_code j metal) position ∙ sym (code_at j metal 0 n i h))
