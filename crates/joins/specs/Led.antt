-- The move that a lead tells, as the code answers it.
--     IsLed     it has the lead's number, and is what the move makes
use Rattle.std.specs.Prelude.{ℕ, ◌≡◌, List, Some}
use Rattle.job.specs.Grid.{Grid}
use Rattle.rules.specs.Views.{View}
use Rattle.rules.specs.Segments.{Place}
use Rattle.rules.specs.Prices.{Tech}
use Rattle.rules.specs.Steps.{step}
use Rattle.rules.specs.Structs.{IsStepped}
use Rattle.search.specs.Fronts.{lead_at}
use Rattle.joins.specs.declared.led.Led.{Led}

pub record IsLed (g : Grid) (t : Tech) (view : View) (work : List ℕ) (p : Place) (r : Led) : Type 0 where
  pub number : r.number ≡ lead_at t work p
  pub stepped : IsStepped g view p (Some r.made) (step t view p r.number)
