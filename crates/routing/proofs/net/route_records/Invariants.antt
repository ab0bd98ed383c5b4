-- `routing::net::route_records` meets its contract: what has been routed, then the rest, is the whole.
use Prim.Native.Nat.{◌-◌}
use mathlib.Core.Path.{◌≡◌}
use lib.ListN.{take}
use Rattle.job.specs.Structs.{grid_of}
use Rattle.rules.specs.Structs.{seen_by}
use Rattle.bounds.specs.Fills.{Among}
use Rattle.routing.proofs.Records.{Recording}
use Rattle.routing.proofs.net.route_records.Given as goal

abbrev pub invariant-loop-turn : goal.invariant-loop-turn
invariant-loop-turn l =
    Recording l.prices.tech (seen_by l.prices.tech l.seen) l.hand.number (take l.hand.pins l.pins) l.hand.pins l.initial.bits l.initial.totals (record { spots = l.initial.spots; codes = l.initial.map }) l.initial.plan
    l.spots l.map l.plan l.totals l.bits (l._turn-end - l._turn) × (l.work ≡ l.initial.work) × Among (grid_of l.prices.tech.grid) l.spots l.pins l.hand.pins
