-- What the code holds of a net's view, of layers and of prices.
--     seen_blocked, seen_clear, seen_taken, seen_outside    a vertex of the grid is so where its byte says so
--     on_grid_lem, in_array, line_held, line_fits           the layer line of a vertex
--     from_cost                                             a penalty from its field is what that charges
use Prim.Native.Nat.{ℕ, zero, suc, ◌+◌, ◌-◌, ◌<◌}
use mathlib.Core.Path.{◌≡◌, refl, sym, ap, ◌∙◌}
use mathlib.Core.List.{List}
use mathlib.Core.Bool.{Bool, true, false, not, cond}
use native.Mathlib.Nat.{not-suc-le-zero, le_of_suc-le-suc}
use native.Mathlib.Omega.{arith}
use lib.ListN.{get_or}
use lib.Dec.{eqb}
use borrow.Author.Tests.{lt-ltb}
use Rattle.job.specs.Grid.{Grid, vertices}
use Rattle.job.specs.Job.{Layer, closed_price}
use Rattle.job.specs.Good.{GoodLayer}
use Rattle.job.specs.Structs.{grid_of, layer_struct, penalty_of}
use Rattle.job.specs.declared.groups.Layer.{Layer as LayerStruct}
use Rattle.job.specs.declared.penalty.Penalty.TheVariants.{Closed, Price}
use Rattle.paths.specs.Costs.{fin, inf}
use Rattle.rules.specs.Tracks.{layer_of}
use Rattle.rules.specs.Prices.{line_of, charge}
use Rattle.rules.specs.Overheads.{clear}
use Rattle.rules.specs.Seen.{holds, clear_byte, view_by}
use Rattle.rules.specs.Structs.{OnGrid, line_at, line_record, lines_from, tech_by, TechFits, cost_of}
use Rattle.rules.specs.declared.price.Tech.{Tech as TechStruct}
use Rattle.rules.proofs.Vertices.{vertex_below}
use Rattle.rules.proofs.Techs.{line_good}

-- ---- what the net sees

module _ (g : Grid) (seen : List ℕ) (v : ℕ) (h : v < vertices g) where
  -- a vertex of the grid is blocked where its byte says so
  pub seen_blocked : (view_by g seen).blocked v ≡ holds 1 (get_or seen v 0)
  unfolding view_by
  seen_blocked = rw (lt-ltb v (vertices g) h)

  -- and clear
  pub seen_clear : clear (view_by g seen) v ≡ clear_byte (get_or seen v 0)
  unfolding clear view_by clear_byte
  seen_clear = rw (lt-ltb v (vertices g) h)

  -- and taken
  pub seen_taken : (view_by g seen).taken v ≡ holds 2 (get_or seen v 0)
  unfolding view_by
  seen_taken = rw (lt-ltb v (vertices g) h)

  -- and outside the guide
  pub seen_outside : not ((view_by g seen).guided v) ≡ holds 4 (get_or seen v 0)
  unfolding view_by
  seen_outside = rw (lt-ltb v (vertices g) h) (twice (holds 4 (get_or seen v 0)))
    where
      twice : (b : Bool) → not (not b) ≡ b
      twice true = refl
      twice false = refl

-- ---- the layer line of a vertex

-- a line among n from one on
from_at : (ls : List LayerStruct) (from n k : ℕ) (d : Layer) → k < n → get_or (lines_from ls from n) k d ≡ line_record (line_at ls (from + k))
unfolding lines_from
from_at ls from zero k d h = absurd (not-suc-le-zero h)
from_at ls from (suc n) zero d h = let e : from ≡ from + 0 = omega arith in ap (λ (i : ℕ). line_record (line_at ls i)) e
from_at ls from (suc n) (suc k) d h =
    let e : suc from + k ≡ from + suc k = omega arith in
    from_at ls (suc from) n k d (le_of_suc-le-suc h) ∙ ap (λ (i : ℕ). line_record (line_at ls i)) e

module _ {t : TechStruct} {v : ℕ} (fits : TechFits t) (h : v < vertices (grid_of t.grid)) where
  -- it is a vertex of a small grid
  pub on_grid_lem : OnGrid t.grid v
  on_grid_lem = record { small = fits.sized.small; there = h }

  -- and of the array
  pub in_array : v < 16384
  in_array = omega (arith, h, fits.sized.vertices)

  -- its layer line
  pub line_held : line_at t.layers (layer_of (grid_of t.grid) v) ≡ layer_struct (line_of (tech_by t) v)
  unfolding line_of tech_by line_at
  line_held =
      let layer = layer_of (grid_of t.grid) v in
      let first : layer ≡ 0 + layer = omega arith in
      ap (line_at t.layers) first ∙ ap layer_struct (sym (from_at t.layers 0 t.grid.layers layer _ (vertex_below (grid_of t.grid) h).layer))

  -- it is good
  pub line_fits : GoodLayer (t.grid.layers - suc (layer_of (grid_of t.grid) v)) (line_of (tech_by t) v)
  unfolding tech_by
  line_fits = line_good fits.good h

-- ---- prices

-- a penalty from its field is what that charges
pub from_cost : (field : ℕ) → cost_of (penalty_of field) ≡ charge field
unfolding cost_of penalty_of charge
from_cost field = by (eqb field closed_price)
  where
    by : (b : Bool) → cost_of (cond b Closed (Price field)) ≡ cond b inf (fin field)
    by true = refl
    by false = refl
