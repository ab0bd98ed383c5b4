-- The map that a plan leaves.
-- Specification: sections 5 and 7.1.
--     replayed_map     the map of the plan's metal, or zero after a refusal
use Rattle.std.specs.Prelude.{ℕ, List, ◌++◌, drop}
use Rattle.job.specs.Grid.{vertices}
use Rattle.job.specs.Slices.{zeroed}
use Rattle.job.specs.Job.{Job}
use Rattle.job.specs.Reading.{Read, refused, good}
use Rattle.rules.specs.Routings.{Routed}
use Rattle.rules.specs.Maps.{map_of}

-- "needed parts of map and work zero"; or the map of the metal. What lies past the need is as found
unfoldable pub replayed_map : Job → Read Routed → (map : List ℕ) → List ℕ
replayed_map j (refused n p) map = zeroed (vertices j.grid) map
replayed_map j (good r) map = map_of j r.metal ++ drop (vertices j.grid) map
