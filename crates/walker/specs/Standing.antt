-- What the arrays stand for.
--     Stood     a standing
--     AtNet     what is known before each record of a net
use Rattle.std.specs.Prelude.{ℕ, ◌≤◌, ◌<◌, ◌≡◌, List, true, length}
use Rattle.job.specs.Grid.{Grid, vertices}
use Rattle.job.specs.Job.{Job}
use Rattle.rules.specs.Views.{View, member, view_of}
use Rattle.rules.specs.Prices.{tech_of}
use Rattle.rules.specs.Standings.{Standing}
use Rattle.rules.specs.Apart.{Stands}
use Rattle.metal.specs.Codes.{Codes}
use Rattle.tree.specs.Spots.{Spots}
use Rattle.walker.specs.Entering.{Arrays}

-- the arrays tell the tree, the unjoined pins and the metal of a standing, and have room for the grid
pub record Stood (g : Grid) (s : Standing) (arrays : Arrays) : Type 0 where
  pub spots : Spots g s.tree s.unjoined arrays.spots
  pub codes : Codes g s.metal arrays.codes
  pub room : vertices g ≤ length arrays.spots
  pub size : vertices g ≤ length arrays.codes

-- before each record of net k: the arrays stand for what stands, which keeps tree and unjoined pins apart;
-- these are among the net's pins; and the view is the net's
pub record AtNet (j : Job) (k : ℕ) (view : View) (pins : List ℕ) (s : Standing) (arrays : Arrays) : Type 0 where
  pub stood : Stood j.grid s arrays
  pub apart : Stands (tech_of j) s
  pub known : k < length s.metal
  pub among : (v : ℕ) → member v s.unjoined ≡ true → member v pins ≡ true
  pub sees : view ≡ view_of j k s.metal
