-- The tree and the unjoined pins of the net at hand, as the code holds them: a byte for each vertex.
--     spot_of, Spots    the byte of a vertex: 1 on the tree, 2 an unjoined pin
--     Pins              the pins of a net in an array
--     put_all           a byte put at several vertices
--     begun_spots       the bytes before a net's first join
--     some_unjoined     whether one of some pins is unjoined
use Rattle.std.specs.Prelude.{ℕ, ◌≤◌, ◌<◌, ◌≡◌, List, [], ◌∷◌, Bool, cond, length, get_or, set, take, eqb}
use Rattle.job.specs.Lists.{any, All}
use Rattle.job.specs.Grid.{Grid, vertices}
use Rattle.rules.specs.Views.{member}

unfoldable pub spot_of : (tree unjoined : List ℕ) → (v : ℕ) → ℕ
spot_of tree unjoined v = cond (member v tree) 1 (cond (member v unjoined) 2 0)

-- each vertex's byte tells whether it is on the tree or an unjoined pin
unfoldable pub Spots : Grid → (tree unjoined spots : List ℕ) → Type 0
Spots g tree unjoined spots = (v : ℕ) → v < vertices g → get_or spots v 0 ≡ spot_of tree unjoined v

-- so many pins in an array of sixteen, each a vertex
pub record Pins (pins : List ℕ) (count : ℕ) : Type 0 where
  pub few : count ≤ 16
  pub there : count ≤ length pins
  pub on_grid : All (λ v. v < 16384) (take count pins)

unfoldable pub put_all : (byte : ℕ) → (vs spots : List ℕ) → List ℕ
put_all byte [] spots = spots
put_all byte (v ∷ vs) spots = put_all byte vs (set spots v byte)

-- "A net's tree starts as its first pin."; the others are unjoined
unfoldable pub begun_spots : (pins spots : List ℕ) → List ℕ
begun_spots [] spots = spots
begun_spots (first ∷ others) spots = set (put_all 2 (first ∷ others) spots) first 1

unfoldable pub some_unjoined : (spots pins : List ℕ) → Bool
some_unjoined spots pins = any (λ v. eqb (get_or spots v 0) 2) pins
