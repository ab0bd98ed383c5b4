-- The map: "0 bare, 1 to 255 that net alone (first is 1; every pin counts, joined or not), 256 several nets,
-- 257 obstacle".
-- Specification: section 5.
use Rattle.std.specs.Prelude.{ℕ, zero, suc, List, [], ◌∷◌, cond, eqb}
use Rattle.job.specs.Grid.{vertices}
use Rattle.job.specs.Job.{Job}
use Rattle.job.specs.Reading.{on_obstacle}
use Rattle.rules.specs.Tracks.{vertex_by}
use Rattle.rules.specs.Views.{member}

-- the code of a vertex by the metal of the nets numbered from k on, where `code` tells the nets before
unfoldable pub net_code : (code k : ℕ) → List (List ℕ) → (v : ℕ) → ℕ
net_code code k [] v = code
net_code code k (m ∷ ms) v = net_code (cond (member v m) (cond (eqb code 0) k 256) code) (suc k) ms v

unfoldable pub map_code : Job → (metal : List (List ℕ)) → (v : ℕ) → ℕ
map_code j metal v = cond (on_obstacle j.grid j.obstacles (vertex_by j.grid v)) 257 (net_code 0 1 metal v)

-- the codes of the vertices below n
unfoldable pub codes_below : Job → (metal : List (List ℕ)) → (from n : ℕ) → List ℕ
codes_below j metal from zero = []
codes_below j metal from (suc n) = map_code j metal from ∷ codes_below j metal (suc from) n

unfoldable pub map_of : Job → (metal : List (List ℕ)) → List ℕ
map_of j metal = codes_below j metal 0 (vertices j.grid)
