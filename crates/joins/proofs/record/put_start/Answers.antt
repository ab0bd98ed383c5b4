-- `joins::record::put_start` meets its contract: its fields stand one after the other.
use mathlib.Core.Path.{ap, ◌∙◌}
use Rattle.bits.specs.Puts.{put_bits}
use Rattle.joins.proofs.Putting.{put_next, put_last, start_bits}
use Rattle.joins.proofs.record.put_start.Goals as goal

pub returns : goal.returns
returns c =
    put_last _ _ ∙ put_next _ _ 20 _ _ c.put-end.ensures ∙ put_next _ _ 8 _ _ c.put-moves.ensures ∙ put_next _ _ 8 _ _ c.put-column.ensures
    ∙ put_next _ _ 3 _ _ c.put-row.ensures ∙ put_next _ _ 1 _ _ c.put-layer.ensures ∙ ap (put_bits _ _) (start_bits _ _ _ c.vertex_by-vertex.ensures)
