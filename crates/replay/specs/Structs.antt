-- The forms in which the code answers, each made from what Following says.
use Rattle.std.specs.Prelude.{ℕ, ◌-◌, ◌*◌, ◌^◌, ◌≤◌, ◌≡◌, List, Bool, ◌&&◌, not, ltb, eqb, length, drop, Result, Ok, Err}
use Rattle.bits.specs.Bits.{field, number}
use Rattle.job.specs.Grid.{Grid}
use Rattle.job.specs.Job.{Job}
use Rattle.job.specs.Reading.{Read, refused, good, ◌>>=◌, ◌>>◌, rule}
use Rattle.job.specs.Refusals.{number_of}
use Rattle.job.specs.declared.refusal.Refused.{Refused}
use Rattle.plan.specs.Reading.{group, Progress}
use Rattle.metal.specs.Codes.{Codes, with_obstacles}
use Rattle.job.specs.Slices.{zeroed}
use Rattle.rules.specs.Views.{View}
use Rattle.rules.specs.Segments.{Place}
use Rattle.rules.specs.Prices.{Tech}
use Rattle.rules.specs.Places.{GoodPlace}
use Rattle.rules.specs.Steps.{Made}
use Rattle.rules.specs.Structs.{WholeMade, tech_by, place_of, made_by}
use Rattle.rules.specs.declared.price.Prices.{Prices}
use Rattle.rules.specs.declared.step.Made.{Made as MadeStruct}
use Rattle.rules.specs.declared.step.Place.{Place as PlaceStruct}
use Rattle.rules.specs.declared.totals.Totals.{Totals as TotalsStruct}
use Rattle.walker.specs.Structs.{IsWalk, WalkFits, totals_of, Bounded}
use Rattle.walker.specs.Entering.{Gone}
use Rattle.walker.specs.declared.Walk.{Walk}
use Rattle.counts.specs.Counts.{counted, walk_counts, plan_counts}
use Rattle.counts.specs.Structs.{CountsFit}
use Rattle.replay.specs.Following.{Came, came, stopped, Joined, Ended, with_join_counts}
use Rattle.rules.specs.Routings.{Routed}
use Rattle.replay.specs.declared.join.Joined.{Joined as JoinedStruct}
use Rattle.replay.specs.declared.net.Ended.{Ended as EndedStruct}

-- ---- a move

-- the code's place is good
pub record AtPlace (prices : Prices) (p : PlaceStruct) : Type 0 where
  pub place : GoodPlace (tech_by prices.tech) (place_of p)

unfoldable pub judged_of : Grid → View → Place → Result MadeStruct Refused → Read Made
judged_of g view p (Err e) = refused (number_of e.refusal) e.place
judged_of g view p (Ok m) = good (made_by g view p m)

unfoldable pub WholeJudged : Grid → View → Place → Result MadeStruct Refused → Type 0
WholeJudged g view p (Err e) = Unit
WholeJudged g view p (Ok m) = WholeMade g view p m

pub record IsJudged (g : Grid) (view : View) (p : Place) (r : Result MadeStruct Refused) (x : Read Made) : Type 0 where
  pub same : judged_of g view p r ≡ x
  pub whole : WholeJudged g view p r

-- ---- the moves of a join

-- refused alike, or the walk
unfoldable pub IsMoves : Result Walk Refused → Came Gone → Type 0
IsMoves (Err e) (stopped n p arrays) = (number_of e.refusal ≡ n) × (e.place ≡ p)
IsMoves (Err e) (came gone arrays) = ⊥
IsMoves (Ok w) (stopped n p arrays) = ⊥
IsMoves (Ok w) (came gone arrays) = IsWalk w gone

unfoldable pub MovesFit : Result Walk Refused → Type 0
MovesFit (Err e) = Unit
MovesFit (Ok w) = WalkFits w

-- the counts with those of the moves, each at most 2^22 for each bit of the plan that was read: a move has
-- two, and five counts below 2^20
unfoldable pub CountedMoves : Grid → View → (start : ℕ) → Came Gone → (at : ℕ) → (before after : List ℕ) → Type 0
CountedMoves g view start (stopped n p arrays) at before after = Unit
CountedMoves g view start (came gone arrays) at before after =
    (after ≡ counted (walk_counts g view start gone.made) before) × CountsFit (2 ^ 22 * at) after

-- ---- a join

-- refused alike, or the walk and the next bit
unfoldable pub IsJoin : Result JoinedStruct Refused → Came Joined → Type 0
IsJoin (Err e) (stopped n p arrays) = (number_of e.refusal ≡ n) × (e.place ≡ p)
IsJoin (Err e) (came joined arrays) = ⊥
IsJoin (Ok j) (stopped n p arrays) = ⊥
IsJoin (Ok j) (came joined arrays) = IsWalk j.walk joined.gone × (j.next ≡ joined.next)

-- the counts with those of its moves
unfoldable pub CountedJoin : (bits : List ℕ) → Tech → View → (at : ℕ) → Came Joined → (before after : List ℕ) → Type 0
CountedJoin bits t view at (stopped n p arrays) before after = Unit
CountedJoin bits t view at (came joined arrays) before after =
    (after ≡ with_join_counts bits t view at joined.gone.made before) × CountsFit (2 ^ 22 * joined.next) after

-- the walk's numbers are small, and the next bit is not far
unfoldable pub JoinFits : (most : ℕ) → Result JoinedStruct Refused → Type 0
JoinFits most (Err e) = Unit
JoinFits most (Ok j) = WalkFits j.walk × (j.next ≤ most)

-- ---- the records of a net

-- whether a join follows
unfoldable pub flag_of : (bits : List ℕ) → (at : ℕ) → Read Bool
flag_of bits at = do
  group bits at 1
  good (not (eqb (field bits at 1) 0))

-- refused alike, or the totals and the next bit
unfoldable pub IsNet : Result EndedStruct Refused → Came Ended → Type 0
IsNet (Err e) (stopped n p arrays) = (number_of e.refusal ≡ n) × (e.place ≡ p)
IsNet (Err e) (came ended arrays) = ⊥
IsNet (Ok r) (stopped n p arrays) = ⊥
IsNet (Ok r) (came ended arrays) = (totals_of r.totals ≡ ended.totals) × (r.next ≡ ended.next)

-- the counts after them
unfoldable pub CountedNet : Came Ended → (after : List ℕ) → Type 0
CountedNet (stopped n p arrays) after = Unit
CountedNet (came ended arrays) after = (after ≡ ended.counts) × CountsFit (2 ^ 22 * ended.next) after

unfoldable pub NetFits : {E : Type 0} → (n : ℕ) → Result EndedStruct E → Type 0
NetFits n (Err e) = Unit
NetFits n (Ok r) = Bounded n r.totals r.next

-- ---- all nets

-- refused alike; or the totals and the next bit, and the codes are those of the metal
unfoldable pub IsNets : Grid → Result EndedStruct Refused → Read Progress → (codes : List ℕ) → Type 0
IsNets g (Err e) x codes = x ≡ refused (number_of e.refusal) e.place
IsNets g (Ok r) x codes =
    (all : Progress) × (x ≡ good all) × (totals_of r.totals ≡ all.totals) × (r.next ≡ all.at) × Codes g all.metal codes

-- the counts with those of the entries
unfoldable pub CountedNets : Job → Read Progress → (before after : List ℕ) → Type 0
CountedNets j (refused n p) before after = Unit
CountedNets j (good all) before after = after ≡ counted (plan_counts j all.entries) before

-- ---- a whole plan

-- refused alike, or the totals
unfoldable pub IsReplayed : Result TotalsStruct Refused → Read Routed → Type 0
IsReplayed (Err e) x = x ≡ refused (number_of e.refusal) e.place
IsReplayed (Ok totals) x = (r : Routed) × (x ≡ good r) × (totals_of totals ≡ r.totals)

-- the counts with those of the plan
unfoldable pub CountedPlan : Job → Read Routed → (before after : List ℕ) → Type 0
CountedPlan j (refused n p) before after = Unit
CountedPlan j (good r) before after = after ≡ counted (plan_counts j r.entries) before

-- the tail, after all nets were read
unfoldable pub plan_from : (bits : List ℕ) → Read Progress → Read Routed
plan_from bits x = do
  all ← x
  rule 15 all.at (ltb (length bits - all.at) 8 && eqb (number (drop all.at bits)) 0)
  good (record { entries = all.entries; metal = all.metal; totals = all.totals })

-- what the code answers of the tail
abbrev pub IsEnd : (bits : List ℕ) → Result EndedStruct Refused → Result TotalsStruct Refused → Type 0
IsEnd bits read r = (g : Grid) (x : Read Progress) (codes : List ℕ) → IsNets g read x codes → IsReplayed r (plan_from bits x)

-- the refusal of a net, or what it answers of the tail
unfoldable pub IsEnded : {E : Type 0} → (bits : List ℕ) → Result EndedStruct E → Result (Result TotalsStruct Refused) E → Type 0
IsEnded bits (Err e) r = r ≡ Err e
IsEnded bits (Ok ended) (Err e) = ⊥
IsEnded bits (Ok ended) (Ok r) = IsEnd bits (Ok ended) r

-- the two refusals as one
abbrev pub both_ended : Result (Result TotalsStruct Refused) Refused → Result TotalsStruct Refused
both_ended (Err e) = Err e
both_ended (Ok r) = r

-- the map at the end
unfoldable pub finished_map : {E : Type 0} → (occupants : List ℕ) → (count : ℕ) → Result TotalsStruct E → (map : List ℕ) → List ℕ
finished_map occupants count (Err e) map = zeroed count map
finished_map occupants count (Ok totals) map = with_obstacles occupants count map
