-- `search::reach::reach_all` meets its contract: so many moves are tried.
use Rattle.rules.specs.Structs.{tech_by, seen_by, place_of}
use Rattle.search.specs.Tries.{OwedFor}
use Rattle.search.proofs.Turning.{Trying}
use Rattle.search.proofs.reach.reach_all.Given as goal

abbrev pub invariant-loop-number : goal.invariant-loop-number
invariant-loop-number l =
    Trying (tech_by l.prices.tech) (seen_by l.prices.tech l.seen) l.spots l.bounds.entries l.item l.distance l.initial.near l.initial.work l.initial.reaching.front.size l.initial.reaching.front.best l.near l.work l.reaching.front.size l.reaching.front.best l.number
    × OwedFor (tech_by l.prices.tech) (seen_by l.prices.tech l.seen) (place_of l.settled.place) l.reaching.owed
