-- The map while nets are joined: at each vertex the code of the metal on it, 0 bare, a net alone, 256 several
-- nets. Obstacles are put in at the end.
--     laid_code, lay_all    a net laid on vertices
--     beyond, extended      the vertices beyond one, along its track, and those of an extension
--     Codes                 each vertex's code is that of the metal on it
--     Beyond                past its need a slice is as found
--     Bare                  its need is zero
--     with_obstacles        obstacles put in
use Rattle.std.specs.Prelude.{ℕ, zero, suc, ◌<◌, ◌≡◌, List, [], ◌∷◌, ◌++◌, cond, length, get_or, set, drop, eqb}
use Rattle.job.specs.Grid.{Grid, vertices}
use Rattle.rules.specs.Tracks.{Entered, outside, at, entered}
use Rattle.rules.specs.Segments.{Direction, opposite, Place}
use Rattle.rules.specs.Overheads.{toward, first_of}
use Rattle.rules.specs.Maps.{net_code}
use Rattle.rules.specs.Structs.{heading_of, steps_of}
use Rattle.rules.specs.declared.overhead.Extension.{Extension}

-- the code of a vertex once net n, counted from 1, is laid on it
unfoldable pub laid_code : (n code : ℕ) → ℕ
laid_code n code = cond (eqb code 0) n (cond (eqb code n) n 256)

-- net n laid on vertices, one after the other
unfoldable pub lay_all : (n : ℕ) → (vs codes : List ℕ) → List ℕ
lay_all n [] codes = codes
lay_all n (v ∷ vs) codes = lay_all n vs (set codes v (laid_code n (get_or codes v 0)))

-- a vertex that is entered, and those after it
unfoldable pub from_entered : (ℕ → List ℕ) → Entered → List ℕ
from_entered after outside = []
from_entered after (at w) = w ∷ after w

-- the n vertices beyond one along its track, as far as the grid goes
unfoldable pub beyond : Grid → Direction → (n v : ℕ) → List ℕ
beyond g d zero v = []
beyond g d (suc n) v = from_entered (beyond g d n) (entered g v (toward d))

-- the vertices of an extension at a place, beyond the two ends of its segment
unfoldable pub extended : Grid → Place → Extension → List ℕ
extended g p e =
    let d = heading_of p.segment in
    beyond g d e.leaving p.vertex ++ beyond g (opposite d) e.starting (first_of g d (steps_of p.segment) p.vertex)

-- each vertex's code is that of the metal on it
unfoldable pub Codes : Grid → (metal : List (List ℕ)) → (codes : List ℕ) → Type 0
Codes g metal codes = (v : ℕ) → v < vertices g → get_or codes v 0 ≡ net_code 0 1 metal v

-- from n on a slice is as found, and it is as long
pub record Beyond (n : ℕ) (held found : List ℕ) : Type 0 where
  pub size : length held ≡ length found
  pub rest : drop n held ≡ drop n found

-- the first n are zero
unfoldable pub Bare : (n : ℕ) → List ℕ → Type 0
Bare n codes = (v : ℕ) → v < n → get_or codes v 0 ≡ 0

-- 257 put in where the occupant is an obstacle, in the first n
unfoldable pub with_obstacles : (occupants : List ℕ) → (n : ℕ) → (codes : List ℕ) → List ℕ
with_obstacles occupants zero codes = codes
with_obstacles occupants (suc n) codes = cond (eqb (get_or occupants n 0) 1) (set (with_obstacles occupants n codes) n 257) (with_obstacles occupants n codes)
