-- Reading a plan against a job: its entries with the map's metal and the totals, or a refusal from 15 to 18
-- with its place. "each move judged before the next is read"
-- Specification: sections 4.2, 6.4 and 7.
--     group         15 where a flag, a start with its count, a move or a cost is not whole
--     read_moves    the moves of a join
--     readRecord    a record
--     read_net, read_nets, read_plan
use Rattle.std.specs.Prelude.{ℕ, zero, suc, ◌+◌, ◌-◌, ◌*◌, List, [], ◌∷◌, ◌++◌, Bool, ◌&&◌, not, cond, length, drop, leb, ltb, eqb}
use Rattle.bits.specs.Bits.{bits_of, field, whole, number}
use Rattle.job.specs.Grid.{vertex_number, inside}
use Rattle.job.specs.Job.{Net, Job}
use Rattle.job.specs.Reading.{Read, refused, good, ◌>>=◌, ◌>>◌, rule, vertex_at}
use Rattle.rules.specs.Views.{View, member, pins_of, view_of}
use Rattle.rules.specs.Segments.{Place}
use Rattle.rules.specs.Prices.{Tech, tech_of}
use Rattle.rules.specs.Steps.{Made, Stepped, illegal, legal, step}
use Rattle.rules.specs.Walks.{start_at, walk_cost}
use Rattle.rules.specs.Standings.{Standing, metal_at_first, begun, joined_by}
use Rattle.rules.specs.Joins.{join, none}
use Rattle.rules.specs.Routings.{Entry, Totals, no_totals, with_join, with_net, Routed}

-- "15, first bit: flag, start with count, move or cost not whole"
abbrev pub group : (bits : List ℕ) (at width : ℕ) → Read Unit
group bits at width = rule 15 at (whole bits at width)

-- the moves that were read, and where they led
pub record Moved : Type 0 where
  pub moves : List ℕ
  pub last : Place
  pub made : List Made

-- a move before those that follow it
unfoldable pub with_move : (m : ℕ) → Made → Moved → Moved
with_move m made rest = record { moves = m ∷ rest.moves; last = rest.last; made = made ∷ rest.made }

-- "17, move: move not legal, unjoined pin entered early, or last move enters none": a move enters an unjoined
-- pin just where it is the last
unfoldable pub judged : (at : ℕ) (last : Bool) (unjoined : List ℕ) → Stepped → Read Made
judged at last unjoined illegal = refused 17 at
judged at last unjoined (legal made) = do
  rule 17 at (cond (member made.next.vertex unjoined) last (not last))
  good made

unfoldable pub read_moves : (bits : List ℕ) → Tech → View → (unjoined : List ℕ) → (n at : ℕ) → Place → Read Moved
read_moves bits t view unjoined zero at p = good (record { moves = []; last = p; made = [] })
read_moves bits t view unjoined (suc n) at p = do
  group bits at 2
  made ← judged at (eqb n 0) unjoined (step t view p (field bits at 2))
  rest ← read_moves bits t view unjoined n (at + 2) made.next
  good (with_move (field bits at 2) made rest)

-- how far reading has come: the entries so far, the metal, the totals, and the next bit
pub record Progress : Type 0 where
  pub entries : List Entry
  pub metal : List (List ℕ)
  pub totals : Totals
  pub at : ℕ

unfoldable pub before : Entry → Progress → Progress
before e p = record { entries = e ∷ p.entries; metal = p.metal; totals = p.totals; at = p.at }

-- a join that was read: its start, its moves, and the bit after it
pub record JoinRead : Type 0 where
  pub start : ℕ
  pub moved : Moved
  pub next : ℕ

-- after the flag: "16, start: start not on the tree", "17, count, if 0", the moves, "18, cost: cost differs"
unfoldable pub read_join : (bits : List ℕ) → Job → (k : ℕ) → Standing → (at : ℕ) → Read JoinRead
read_join bits j k s at = do
  group bits at 39
  rule 16 at (inside j.grid (vertex_at bits at) && member (vertex_number j.grid (vertex_at bits at)) s.tree)
  rule 17 (at + 19) (leb 1 (field bits (at + 19) 20))
  let start = vertex_number j.grid (vertex_at bits at)
  let costAt = at + 39 + 2 * field bits (at + 19) 20
  moved ← read_moves bits (tech_of j) (view_of j k s.metal) s.unjoined (field bits (at + 19) 20) (at + 39) (start_at start)
  group bits costAt 40
  rule 18 costAt (eqb (field bits costAt 40) (walk_cost moved.made))
  good (record { start = start; moved = moved; next = costAt + 40 })

-- "bit 0 where there is none, which ends the net", or a join and what follows it
unfoldable pub by_flag : (flag : ℕ) → Progress → Read JoinRead → (JoinRead → Read Progress) → Read Progress
by_flag zero ended joined follows = good ended
by_flag (suc one) ended joined follows = do
  read ← joined
  follows read

-- "A net with every pin joined writes no 0."
unfoldable pub unless_joined : (unjoined : List ℕ) → Progress → Read Progress → Read Progress
unless_joined [] done records = good done
unless_joined (p ∷ ps) done records = records

-- the records of a net until all its pins are joined or one says none; at most n joins, and n is no fewer
-- than the unjoined pins, so at 0 all are joined
unfoldable pub read_net : (bits : List ℕ) → Job → (k n : ℕ) → Standing → Totals → (at : ℕ) → Read Progress
read_net bits j k zero s totals at = good (record { entries = []; metal = s.metal; totals = with_net totals; at = at })
read_net bits j k (suc n) s totals at =
    unless_joined s.unjoined (record { entries = []; metal = s.metal; totals = with_net totals; at = at }) do
      group bits at 1
      by_flag (field bits at 1)
          (record { entries = record { net = k; before = s; written = none } ∷ []; metal = s.metal; totals = totals; at = at + 1 })
          (read_join bits j k s (at + 1))
          (λ read. do
            rest ← read_net bits j k n (joined_by k s read.moved.last.vertex read.moved.made) (with_join totals read.moved.made) read.next
            good (before (record { net = k; before = s; written = join read.start read.moved.moves (walk_cost read.moved.made) }) rest))

unfoldable pub read_nets : (bits : List ℕ) → Job → (k : ℕ) → List Net → (metal : List (List ℕ)) → Totals → (at : ℕ) → Read Progress
read_nets bits j k [] metal totals at = good (record { entries = []; metal = metal; totals = totals; at = at })
read_nets bits j k (net ∷ nets) metal totals at = do
  this ← read_net bits j k (length (pins_of j.grid net)) (begun (pins_of j.grid net) metal) totals at
  rest ← read_nets bits j (suc k) nets this.metal this.totals this.at
  good (record { entries = this.entries ++ rest.entries; metal = rest.metal; totals = rest.totals; at = rest.at })

-- "tail wrong (bit after last)"
unfoldable pub read_plan : Job → (bytes : List ℕ) → Read Routed
read_plan j bytes = do
  let bits = bits_of bytes
  all ← read_nets bits j 0 j.nets (metal_at_first j) no_totals 0
  rule 15 all.at (ltb (length bits - all.at) 8 && eqb (number (drop all.at bits)) 0)
  good (record { entries = all.entries; metal = all.metal; totals = all.totals })
