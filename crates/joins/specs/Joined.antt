-- What a record leaves, as the code answers it.
--     left_by     the arrays after a record
--     IsJoined    the walk of a join and the bit after its record, or none
--     Written     what the code answers of a record, and what it leaves
use Rattle.std.specs.Prelude.{ℕ, ◌+◌, ◌*◌, ◌^◌, ◌≤◌, ◌≡◌, List, length, Option, Some, None}
use Rattle.bits.specs.Puts.{put_bits}
use Rattle.rules.specs.Views.{View}
use Rattle.rules.specs.Prices.{Tech}
use Rattle.rules.specs.Joins.{Record, join, none}
use Rattle.plan.specs.Layout.{record_bits}
use Rattle.walker.specs.Entering.{Arrays, gone_at, enter_all, left_in}
use Rattle.walker.specs.Structs.{WalkFits, IsEntered}
use Rattle.joins.specs.declared.join.Joined.{Joined}

unfoldable pub left_by : Tech → View → (net : ℕ) → Record → Arrays → Arrays
left_by t view net none arrays = arrays
left_by t view net (join start moves cost) arrays = left_in arrays (enter_all t view net moves (gone_at start) arrays)

-- a join's record has 80 bits, and 2 for each move
unfoldable pub IsJoined : Tech → View → (net at : ℕ) → Arrays → Option Joined → Record → Type 0
IsJoined t view net at arrays None none = Unit
IsJoined t view net at arrays None (join start moves cost) = ⊥
IsJoined t view net at arrays (Some r) none = ⊥
IsJoined t view net at arrays (Some r) (join start moves cost) =
    (r.next ≡ at + 2 * length moves + 80) × IsEntered r.walk (enter_all t view net moves (gone_at start) arrays)

-- the walk's numbers are small, and the next bit is not far
unfoldable pub JoinedFits : (most : ℕ) → Option Joined → Type 0
JoinedFits most None = Unit
JoinedFits most (Some r) = WalkFits r.walk × (r.next ≤ most)

-- what the code answers of a record that it writes from a bit on, and what it leaves in the arrays and in the
-- plan
pub record Written (t : Tech) (view : View) (net at : ℕ) (arrays : Arrays) (plan : List ℕ) (answer : Option Joined) (r : Record) (spots codes longer : List ℕ) : Type 0 where
  pub joined : IsJoined t view net at arrays answer r
  pub fits : JoinedFits (at + 2 ^ 22) answer
  pub tree : spots ≡ (left_by t view net r arrays).spots
  pub laid : codes ≡ (left_by t view net r arrays).codes
  pub put : longer ≡ put_bits plan at (record_bits t.grid r)
