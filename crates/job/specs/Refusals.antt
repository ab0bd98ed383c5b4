-- What the code answers where it may refuse, as Reading says it.
use Rattle.std.specs.Prelude.{ℕ, Result, Ok, Err}
use Rattle.job.specs.Reading.{Read, refused, good}
use Rattle.job.specs.declared.refusal.Refusal.{Refusal}
use Rattle.job.specs.declared.refusal.Refusal.TheVariants.{TooManyBytes, Cut, Edition, TooManyVertices, Layer, Obstacle, Pin, EarlierPin, Box, Tail, ShortMap, ShortWork, ShortPlan, PlanCut, Start, Move, Cost, Report}
use Rattle.job.specs.declared.refusal.Refused.{Refused}

-- the numbers of the table of refusals
abbrev pub number_of : Refusal → ℕ
number_of TooManyBytes = 1
number_of Cut = 2
number_of Edition = 3
number_of TooManyVertices = 4
number_of Layer = 5
number_of Obstacle = 6
number_of Pin = 8
number_of EarlierPin = 9
number_of Box = 10
number_of Tail = 11
number_of ShortMap = 12
number_of ShortWork = 13
number_of ShortPlan = 14
number_of PlanCut = 15
number_of Start = 16
number_of Move = 17
number_of Cost = 18
number_of Report = 19

-- a result of the code, read so: the refusal by its number
abbrev pub read_of : {A : Type 0} → Result A Refused → Read A
read_of (Ok a) = good a
read_of (Err r) = refused (number_of r.refusal) r.place
