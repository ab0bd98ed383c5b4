-- The code's way through obstacles and nets. It keeps in an array what occupies each vertex, 1 for an
-- obstacle and 2 for a pin, so that a pin is held against all obstacles and earlier pins by one look. The
-- laws that tie it to Reading are in proofs/Covering.antt; no promise to a caller from outside speaks of it.
--     Passed, and_then                                     how far reading has come with the occupants, or
--                                                          its refusal with them
--     cover_all, cover_obstacle, cover_every               covering vertices of an obstacle
--     obstacles_from, pins_from, nets_from, groups_from    reading with occupants
--     Bare, Occupants                                      what the occupants say of obstacles and pins
use Rattle.std.specs.Prelude.{ℕ, zero, suc, ◌+◌, ◌*◌, ◌<◌, ◌≡◌, List, [], ◌∷◌, cond, length, get_or, set, replicate, T, eqb}
use Rattle.bits.specs.Bits.{field, whole}
use Rattle.job.specs.Lists.{any}
use Rattle.job.specs.Grid.{Grid, Vertex, inside, same, vertex_number}
use Rattle.job.specs.Job.{Obstacle}
use Rattle.job.specs.Reading.{Read, refused, good, Head, vertex_at, covered, on_obstacle, read_obstacle, read_many, read_box, read_tail, obstacles_at}
use Rattle.occupants.specs.Structs.{many_reached}

pub data Passed : Type 0 where
  reached : (at : ℕ) (occupants : List ℕ) → Passed
  stopped : (refusal place : ℕ) (occupants : List ℕ) → Passed

unfoldable pub answer_of : Passed → Read ℕ
answer_of (reached at m) = good at
answer_of (stopped n p m) = refused n p

unfoldable pub occupants_of : Passed → List ℕ
occupants_of (reached at m) = m
occupants_of (stopped n p m) = m

unfoldable pub with_occupants : List ℕ → Read ℕ → Passed
with_occupants m (good at) = reached at m
with_occupants m (refused n p) = stopped n p m

unfoldable pub and_then : Passed → (ℕ → List ℕ → Passed) → Passed
and_then (reached at m) next = next at m
and_then (stopped n p m) next = stopped n p m

-- ---- covering

unfoldable pub cover_all : Grid → List Vertex → List ℕ → List ℕ
cover_all g [] m = m
cover_all g (v ∷ vs) m = cover_all g vs (set m (vertex_number g v) 1)

unfoldable pub cover_obstacle : Grid → Obstacle → List ℕ → List ℕ
cover_obstacle g o m = cover_all g (covered g o) m

-- n vertices, a stride apart
unfoldable pub cover_every : (stride n at : ℕ) → List ℕ → List ℕ
cover_every stride zero at m = m
cover_every stride (suc n) at m = cover_every stride n (at + stride) (set m at 1)

-- n indices a stride apart lie in the array
unfoldable pub RunInside : (stride n at : ℕ) → Type 0
RunInside stride zero at = Unit
RunInside stride (suc n) at = (at < 16384) × RunInside stride n (at + stride)

-- ---- reading with occupants

unfoldable pub cover_read : Grid → (at : ℕ) → List ℕ → Read Obstacle → Passed
cover_read g at m (refused n p) = stopped n p m
cover_read g at m (good o) = reached (at + 27) (cover_obstacle g o m)

unfoldable pub obstacles_from : (bits : List ℕ) → Grid → (n at : ℕ) → List ℕ → Passed
obstacles_from bits g zero at m = reached at m
obstacles_from bits g (suc n) at m = and_then (cover_read g at m (read_obstacle bits g 0 at)) (obstacles_from bits g n)

-- a pin at an index with an occupant
unfoldable pub pin_by_occupant : (at index occupant : ℕ) → List ℕ → Passed
pin_by_occupant at index occupant m = cond (eqb occupant 1) (stopped 8 at m) (cond (eqb occupant 2) (stopped 9 at m) (reached (at + 19) (set m index 2)))

unfoldable pub pin_at : Grid → (at : ℕ) → Vertex → List ℕ → Passed
pin_at g at v m = cond (inside g v) (pin_by_occupant at (vertex_number g v) (get_or m (vertex_number g v) 0) m) (stopped 8 at m)

unfoldable pub pin_from : (bits : List ℕ) → Grid → (at : ℕ) → List ℕ → Passed
pin_from bits g at m = cond (whole bits at 19) (pin_at g at (vertex_at bits at) m) (stopped 2 at m)

unfoldable pub pins_from : (bits : List ℕ) → Grid → (n at : ℕ) → List ℕ → Passed
pins_from bits g zero at m = reached at m
pins_from bits g (suc n) at m = and_then (pin_from bits g at m) (pins_from bits g n)

unfoldable pub boxes_from : (bits : List ℕ) → Grid → (n at : ℕ) → Read ℕ
boxes_from bits g n at = many_reached (at + 38 * n) (read_many 38 (read_box bits g) n at)

unfoldable pub net_from : (bits : List ℕ) → Grid → (at : ℕ) → List ℕ → Passed
net_from bits g at m =
    cond (whole bits at 8)
    (and_then (pins_from bits g (suc (field bits at 4)) (at + 8) m)
    (λ boxesAt occupants. with_occupants occupants (boxes_from bits g (field bits (at + 4) 4) boxesAt)))
    (stopped 2 at m)

unfoldable pub nets_from : (bits : List ℕ) → Grid → (n at : ℕ) → List ℕ → Passed
nets_from bits g zero at m = reached at m
nets_from bits g (suc n) at m = and_then (net_from bits g at m) (nets_from bits g n)

unfoldable pub groups_from : (bits : List ℕ) → Head → List ℕ → Passed
groups_from bits head m =
    and_then (obstacles_from bits head.grid head.obstacles (obstacles_at head) m)
    (λ at occupants. and_then (nets_from bits head.grid head.nets at occupants)
    (λ end occupants'. with_occupants occupants' (many_reached end (read_tail bits end))))

-- ---- what the occupants say

-- no vertex has an occupant
unfoldable pub Bare : List ℕ → Type 0
Bare occupants = occupants ≡ replicate 16384 0

unfoldable pub occupant_of : Grid → List Obstacle → List Vertex → Vertex → ℕ
occupant_of g obstacles pins v = cond (on_obstacle g obstacles v) 1 (cond (any (same v) pins) 2 0)

pub record Occupants (g : Grid) (obstacles : List Obstacle) (pins : List Vertex) (occupants : List ℕ) : Type 0 where
  pub size : length occupants ≡ 16384
  pub says : (v : Vertex) → T (inside g v) → get_or occupants (vertex_number g v) 0 ≡ occupant_of g obstacles pins v
