-- `joins::write::write_moves` meets its contract: what is written and walked, then the rest, is the route.
use Prim.Native.Nat.{ℕ, ◌-◌}
use mathlib.Core.List.{List}
use Rattle.rules.specs.Structs.{tech_by, seen_by}
use Rattle.search.specs.Charts.{Charted}
use Rattle.joins.proofs.Writing.{Writing}
use Rattle.joins.proofs.write.write_moves.Given as goal

abbrev pub invariant-loop-turn : goal.invariant-loop-turn
invariant-loop-turn l =
    (bounds : List ℕ) × (best : ℕ) × (Charted (tech_by l.prices.tech) (seen_by l.prices.tech l.seen) l.initial.spots bounds l.work best)
    × (Writing l.prices.tech l.seen bounds l.work l.net l.from best l._turn-end l.initial.walk.place.vertex (record { spots = l.initial.spots; codes = l.initial.map }) l.initial.plan l.spots l.map l.plan l.walk l.cursor.at (l._turn-end - l._turn))
