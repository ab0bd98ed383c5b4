-- `bounds::bound::Bounds::at` meets its contract: the sum for the vertex's coordinates.
use mathlib.Core.Path.{refl, ◌∙◌}
use Rattle.bounds.specs.Bounds.{bound_at}
use Rattle.bounds.proofs.Coordinates.{vertex_fields_lem}
use Rattle.bounds.proofs.bound.Bounds.at.Goals as goal

pub of-requires : goal.of-requires
of-requires c =
    rw c.vertex_by.ensures (vertex_fields_lem c.args.grid c.args.v c.requires)

pub returns : goal.returns
unfolding bound_at
returns c = c.of.ensures ∙ rw c.vertex_by.ensures refl
