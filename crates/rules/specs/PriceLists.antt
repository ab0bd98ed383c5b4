-- What a job charges for entering a vertex, as the code holds it: the layer lines, and a penalty for each
-- byte of a vertex's flags.
--     base_in          the wire price of a layer, or the price of a via out of it
--     outside_field    the guide penalty of a byte of flags
--     extra_field      the one penalty of such a byte
--     extra_in         what it adds to the price of entering
--     Priced           there is the penalty of each byte
use Rattle.std.specs.Prelude.{ℕ, ◌-◌, ◌%◌, ◌<◌, ◌≡◌, List, ◌||◌, cond, get_or, eqb}
use Rattle.job.specs.Job.{closed_price}
use Rattle.job.specs.declared.groups.Layer.{Layer as LayerStruct}
use Rattle.paths.specs.Costs.{Cost}
use Rattle.rules.specs.Segments.{Kind, along, down, up}
use Rattle.rules.specs.Seen.{holds}
use Rattle.rules.specs.Prices.{charge}
use Rattle.rules.specs.Structs.{line_at}

-- a via is priced by the line of the lower of its two layers
unfoldable pub base_in : List LayerStruct → (layer : ℕ) → Kind → ℕ
base_in ls layer (along d) = (line_at ls layer).wire
base_in ls layer down = (line_at ls (layer - 1)).via
base_in ls layer up = (line_at ls layer).via

-- the guide penalty outside the guide
unfoldable pub outside_field : (guide byte : ℕ) → ℕ
outside_field guide byte = cond (holds 4 byte) guide 0

-- closed where the vertex is blocked, so that it is not entered, and where the guide penalty is; else the
-- short penalty where it is taken, in place of the guide penalty
unfoldable pub extra_field : (guide short byte : ℕ) → ℕ
extra_field guide short byte =
    cond (holds 1 byte || eqb (outside_field guide byte) closed_price) closed_price (cond (holds 2 byte) short (outside_field guide byte))

-- by the lowest three bits of the byte
unfoldable pub extra_in : (extras : List ℕ) (byte : ℕ) → Cost
extra_in extras byte = charge (get_or extras (byte % 8) 0)

pub record Priced (guide short : ℕ) (extras : List ℕ) : Type 0 where
  pub each : (byte : ℕ) → byte < 8 → get_or extras byte 0 ≡ extra_field guide short byte
