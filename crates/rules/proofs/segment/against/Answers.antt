-- `rules::segment::against` meets its contract.
use mathlib.Core.Path.{◌≡◌, refl, ◌∙◌}
use mathlib.Core.Bool.{not}
use denote.Enum.Bare.{sameb}
use Rattle.rules.specs.Segments.{against}
use Rattle.rules.specs.Structs.{direction_of}
use Rattle.rules.specs.contracts.segment.Direction.{the_type}
use Rattle.rules.specs.declared.segment.Direction.{Direction}
use Rattle.rules.specs.declared.segment.Direction.TheVariants.{Low, High}
use Rattle.rules.proofs.segment.against.Goals as goal

pub returns : goal.returns
unfolding against direction_of
returns c = c.ne.ensures ∙ by c.args.was c.args.now
  where
    by : (was now : Direction) → not (sameb the_type was now) ≡ against (direction_of was) (direction_of now)
    by Low Low = refl
    by Low High = refl
    by High Low = refl
    by High High = refl
