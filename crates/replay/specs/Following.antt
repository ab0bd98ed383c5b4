-- The code's way through a plan: reading it with what stands in arrays. The laws that tie it to `read_plan`
-- are in proofs/; no promise to a caller from outside speaks of it.
--     Came, and_on                        how far reading has come, or its refusal
--     judged_move                         a move that is read
--     moves_from                          the moves of a join
--     read_start, cost_from, join_from    a join
--     net_from                            the records of a net
use Rattle.std.specs.Prelude.{ℕ, zero, suc, ◌+◌, ◌*◌, List, Bool, ◌&&◌, cond, not, get_or, leb, eqb}
use Rattle.bits.specs.Bits.{field}
use Rattle.job.specs.Grid.{Grid, vertex_number, inside}
use Rattle.job.specs.Reading.{Read, refused, good, ◌>>◌, rule, vertex_at}
use Rattle.rules.specs.Walks.{walk_cost}
use Rattle.rules.specs.Views.{View}
use Rattle.rules.specs.Segments.{Place}
use Rattle.rules.specs.Prices.{Tech}
use Rattle.rules.specs.Steps.{Made, Stepped, illegal, legal, step}
use Rattle.rules.specs.Routings.{Totals, with_join, with_net}
use Rattle.plan.specs.Reading.{group}
use Rattle.counts.specs.Counts.{counted, walk_counts}
use Rattle.tree.specs.Spots.{some_unjoined}
use Rattle.walker.specs.Entering.{Arrays, enter_by, Gone, gone_at, gone_on}
use Rattle.replay.specs.declared.start.Start.{Start}

pub data Came (A : Type 0) : Type 0 where
  came : A → Arrays → Came A
  stopped : (refusal place : ℕ) → Arrays → Came A

unfoldable pub and_on : {A B : Type 0} → Came A → (A → Arrays → Came B) → Came B
and_on (came a arrays) on = on a arrays
and_on (stopped n p arrays) on = stopped n p arrays

-- what is read without touching the arrays
unfoldable pub and_read : {A B : Type 0} → Arrays → Read A → (A → Came B) → Came B
and_read arrays (refused n p) on = stopped n p arrays
and_read arrays (good a) on = on a

unfoldable pub arrays_of : {A : Type 0} → Came A → Arrays
arrays_of (came a arrays) = arrays
arrays_of (stopped n p arrays) = arrays

-- ---- moves

-- a move enters an unjoined pin just where it is the last
unfoldable pub judged_by : (at : ℕ) (last : Bool) (spots : List ℕ) → Stepped → Read Made
judged_by at last spots illegal = refused 17 at
judged_by at last spots (legal made) = do
  rule 17 at (cond (eqb (get_or spots made.next.vertex 0) 2) last (not last))
  good made

unfoldable pub judged_move : (bits : List ℕ) → Tech → View → (spots : List ℕ) → (last : Bool) → (at : ℕ) → Place → Read Made
judged_move bits t view spots last at p = do
  group bits at 2
  judged_by at last spots (step t view p (field bits at 2))

unfoldable pub moves_from : (bits : List ℕ) → Tech → View → (net n at : ℕ) → Gone → Arrays → Came Gone
moves_from bits t view net zero at gone arrays = came gone arrays
moves_from bits t view net (suc n) at gone arrays =
    and_read arrays (judged_move bits t view arrays.spots (eqb n 0) at gone.place)
    (λ made. moves_from bits t view net n (at + 2) (gone_on gone made) (enter_by net made arrays))

-- ---- a join, after its flag

unfoldable pub read_start : (bits : List ℕ) → Grid → (spots : List ℕ) → (at : ℕ) → Read Start
read_start bits g spots at = do
  group bits at 39
  rule 16 at (inside g (vertex_at bits at) && eqb (get_or spots (vertex_number g (vertex_at bits at)) 0) 1)
  rule 17 (at + 19) (leb 1 (field bits (at + 19) 20))
  good (record { vertex = vertex_number g (vertex_at bits at); moves = field bits (at + 19) 20 })

unfoldable pub read_cost : (bits : List ℕ) → (at cost : ℕ) → Read ℕ
read_cost bits at cost = do
  group bits at 40
  rule 18 at (eqb (field bits at 40) cost)
  good (at + 40)

-- a join's end with what its moves did, and the bit after it
pub record Joined : Type 0 where
  pub gone : Gone
  pub next : ℕ

-- the cost after moves that were read
unfoldable pub cost_from : (bits : List ℕ) → (at : ℕ) → Came Gone → Came Joined
cost_from bits at moves =
    and_on moves (λ gone after. and_read after (read_cost bits at (walk_cost gone.made)) (λ next. came (record { gone = gone; next = next }) after))

unfoldable pub join_from : (bits : List ℕ) → Tech → View → (net at : ℕ) → Arrays → Came Joined
join_from bits t view net at arrays =
    and_read arrays (read_start bits t.grid arrays.spots at) (λ start.
    cost_from bits (at + 39 + 2 * start.moves) (moves_from bits t view net start.moves (at + 39) (gone_at start.vertex) arrays))

-- ---- the records of a net

-- the totals and the counts after it, and the next bit
pub record Ended : Type 0 where
  pub totals : Totals
  pub counts : List ℕ
  pub next : ℕ

unfoldable pub by_flag : (flag : ℕ) → Came Ended → Came Ended → Came Ended
by_flag zero none join = none
by_flag (suc one) none join = join

-- the counts with those of a join that starts at a bit
unfoldable pub with_join_counts : (bits : List ℕ) → Tech → View → (at : ℕ) → List Made → (counts : List ℕ) → List ℕ
with_join_counts bits t view at made = counted (walk_counts t.grid view (vertex_number t.grid (vertex_at bits at)) made)

unfoldable pub net_from : (bits : List ℕ) → Tech → View → (net : ℕ) → (pins : List ℕ) → (n at : ℕ) → Totals → (counts : List ℕ) → Arrays → Came Ended
net_from bits t view net pins zero at totals counts arrays = came (record { totals = with_net totals; counts = counts; next = at }) arrays
net_from bits t view net pins (suc n) at totals counts arrays =
    cond (some_unjoined arrays.spots pins)
    (and_read arrays (group bits at 1) (λ whole.
    by_flag (field bits at 1) (came (record { totals = totals; counts = counts; next = at + 1 }) arrays)
    (and_on (join_from bits t view net (at + 1) arrays) (λ joined after.
    net_from bits t view net pins n joined.next (with_join totals joined.gone.made)
    (with_join_counts bits t view (at + 1) joined.gone.made counts) after))))
    (came (record { totals = with_net totals; counts = counts; next = at }) arrays)
