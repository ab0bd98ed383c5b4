-- The line that the program writes for the bytes that it read: "A program reads a job from standard input (at
-- most 65,536 bytes, 256 vertices, M 7) and lends a plan of 65,536 bytes. It writes one line: the plan in
-- hexadecimal .., or `refused N at P`, .., or `too large` where the job is good but past these limits or the
-- bytes are too many."
-- Specification: section 6.6.
--     line_of         from the bytes
--     read_line       from what reading them gave: a refused job is refused even past the limits
--     good_line       a good job
--     routed_line     a job within the limits
-- Not here: the lines themselves, which crate `lines` defines.
use Rattle.std.specs.Prelude.{ℕ, cond, List, length, replicate, ltb, eqb}
use Rattle.job.specs.Grid.{vertices}
use Rattle.job.specs.Job.{Job, largest_min_length}
use Rattle.job.specs.Reading.{Read, refused, good, read_job}
use Rattle.lines.specs.Lines.{hex_line, refused_line, too_large_line}
use Rattle.router.specs.Routing.{RoutingOutcome, routing_of, plan_in}

-- the plan's bytes, or a refusal of routing
unfoldable pub outcome_line : RoutingOutcome → List ℕ
outcome_line o = cond (eqb o.result.refusal 0) (hex_line (plan_in o)) (refused_line o.result.refusal o.result.place)

-- routing with the slices that the program lends, all zeros: a map of 256 vertices, work for them at M 7, and
-- a plan of 65,536 bytes
abbrev pub lent : (bytes : List ℕ) → RoutingOutcome
lent bytes = routing_of bytes (replicate 256 0) (replicate 8192 0) (replicate 65536 0)

unfoldable pub routed_line : (bytes : List ℕ) → List ℕ
routed_line bytes = outcome_line (lent bytes)

unfoldable pub good_line : (bytes : List ℕ) (vertices largest : ℕ) → List ℕ
good_line bytes v m = cond (ltb 256 v) too_large_line (cond (ltb 7 m) too_large_line (routed_line bytes))

unfoldable pub read_line : (bytes : List ℕ) → Read Job → List ℕ
read_line bytes (refused n p) = refused_line n p
read_line bytes (good j) = good_line bytes (vertices j.grid) (largest_min_length j.lines)

unfoldable pub line_of : (bytes : List ℕ) → List ℕ
line_of bytes = cond (ltb 65536 (length bytes)) too_large_line (read_line bytes (read_job bytes))
