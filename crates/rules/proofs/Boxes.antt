-- The box test, axis by axis.
--     box_six                            it is six comparisons
--     box_layer, box_row, box_column     no where the layer or the row is none of the box's; else what the
--                                        column says
use mathlib.Core.Path.{◌≡◌, refl}
use mathlib.Core.Bool.{true, false, ◌&&◌, and-false}
use lib.Dec.{leb}
use Rattle.job.specs.Grid.{Vertex}
use Rattle.job.specs.Job.{Box}
use Rattle.rules.specs.Views.{on_layers, on_rows, on_columns, in_box}

module _ (v : Vertex) (b : Box) where
  -- the two ends of each axis, both inside
  pub box_six : in_box v b
      ≡ ((leb b.layer_low v.layer && leb v.layer b.layer_high)
      && ((leb b.row_low v.row && leb v.row b.row_high) && (leb b.column_low v.column && leb v.column b.column_high)))
  unfolding in_box
  box_six = refl

  -- a layer that is none of the box's
  pub box_layer : on_layers v.layer b ≡ false → in_box v b ≡ false
  unfolding in_box
  box_layer outside = rw outside refl

  -- a row that is none of the box's
  pub box_row : on_rows v.row b ≡ false → in_box v b ≡ false
  unfolding in_box
  box_row outside = rw outside (and-false (on_layers v.layer b))

  -- on a layer and a row of the box the column decides
  pub box_column : on_layers v.layer b ≡ true → on_rows v.row b ≡ true → in_box v b ≡ on_columns v.column b
  unfolding in_box
  box_column layer row = rw (layer, row) refl
