-- `replay::moves::read_moves` meets its contract: reading the moves that are left gives what reading all
-- gives.
use Rattle.bits.specs.Bits.{bits_of}
use Rattle.job.specs.Structs.{grid_of}
use Rattle.rules.specs.Seen.{view_by}
use Rattle.replay.proofs.Walking.{Walking}
use Rattle.replay.proofs.moves.read_moves.Given as goal

abbrev pub invariant-loop-after : goal.invariant-loop-after
invariant-loop-after l =
    Walking l.prices.tech (view_by (grid_of l.prices.tech.grid) l.seen) (bits_of l.plan) l.net l.count l.from l.start (record { spots = l.initial.spots; codes = l.initial.map }) l.initial.counts l.spots l.map l.counts
    l.walk l.layer l.at l.after
