-- `search::lead::lowest_among` meets its contract: so far no move leads on.
use Rattle.rules.specs.Structs.{tech_by, seen_by, place_of}
use Rattle.search.proofs.Leading.{Untried}
use Rattle.search.proofs.lead.lowest_among.Given as goal

abbrev pub invariant-loop-number : goal.invariant-loop-number
invariant-loop-number l =
    Untried (tech_by l.prices.tech) (seen_by l.prices.tech l.seen) l.spots l.bounds.entries l.work l.best (place_of l.settled.place) l.settled.distance l.number
