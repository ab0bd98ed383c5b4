-- `replay::net::read_records` meets its contract: reading the records that are left gives what reading all
-- gives.
use lib.ListN.{take}
use Rattle.bits.specs.Bits.{bits_of}
use Rattle.job.specs.Structs.{grid_of}
use Rattle.rules.specs.Seen.{view_by}
use Rattle.walker.specs.Structs.{totals_of}
use Rattle.replay.proofs.Recording.{Recording}
use Rattle.replay.proofs.net.read_records.Given as goal

abbrev pub invariant-loop-record : goal.invariant-loop-record
invariant-loop-record l =
    Recording l.prices.tech (view_by (grid_of l.prices.tech.grid) l.seen) (bits_of l.plan) l.hand.number (take l.hand.pins l.pins) l.hand.pins l.from (totals_of l.initial.totals)
    l.initial.counts (record { spots = l.initial.spots; codes = l.initial.map }) l.spots l.map l.counts l.totals l.at l._record
