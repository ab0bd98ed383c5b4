-- What every standing keeps: tree and unjoined pins are apart.
--     Apart, Stands     of a tree and unjoined pins, and of a standing
use Rattle.std.specs.Prelude.{ℕ, ◌<◌, ◌≡◌, List, true, false}
use Rattle.job.specs.Grid.{vertices}
use Rattle.rules.specs.Views.{member}
use Rattle.rules.specs.Prices.{Tech}
use Rattle.rules.specs.Standings.{Standing}

-- the vertices of a tree are of the grid, and none is an unjoined pin
pub record Apart (t : Tech) (tree unjoined : List ℕ) : Type 0 where
  pub on_grid : (v : ℕ) → member v tree ≡ true → v < vertices t.grid
  pub no_goal : (v : ℕ) → member v tree ≡ true → member v unjoined ≡ false

-- the tree and the unjoined pins of a standing are apart
abbrev pub Stands : Tech → Standing → Type 0
Stands t s = Apart t s.tree s.unjoined
