-- Directions and the kinds of moves; the segment that is being made, and a place: a vertex with its segment.
-- Specification: section 2.4.
use Rattle.std.specs.Prelude.{ℕ, zero, suc, Bool, true, false, cond, leb}

-- a step along the track goes low or high
pub data Direction : Type 0 where
  low high : Direction

-- the other direction
unfoldable pub opposite : Direction → Direction
opposite low = high
opposite high = low

-- what a move does: a step along the track in a direction, or a via to the layer below or above
pub data Kind : Type 0 where
  along : Direction → Kind
  down up : Kind

-- "A move's number decides what it changes: 0 low and 1 high step along the layer's track, 2 goes down a
-- layer, 3 up." A greater number is no move's: it enters nothing.
unfoldable pub kind_of : (move : ℕ) → Kind
kind_of zero = along low
kind_of (suc zero) = along high
kind_of (suc (suc zero)) = down
kind_of (suc (suc (suc m))) = up

-- whether a step is against the one before it
unfoldable pub against : (was now : Direction) → Bool
against low low = false
against low high = true
against high low = true
against high high = false

-- "At each moment a segment is fresh, running low or high, or paid." A paid segment has a direction once it
-- has made a step.
pub data Segment : Type 0 where
  fresh : Segment
  running : Direction → (length : ℕ) → Segment
  paid : Segment
  paid_toward : Direction → Segment

pub record Place : Type 0 where
  pub vertex : ℕ
  pub segment : Segment

-- "Length M or more is paid and keeps its direction."
unfoldable pub of_length : (least : ℕ) → Direction → (length : ℕ) → Segment
of_length least d n = cond (leb least n) (paid_toward d) (running d n)

-- what a step makes of a segment, or that it would go back
pub data Grown : Type 0 where
  back : Grown
  grown : Segment → Grown

-- "no step goes back against the direction"
unfoldable pub not_against : (was now : Direction) → Segment → Grown
not_against was now s = cond (against was now) back (grown s)

-- "Running: a step adds 1 to the length." "A join starts paid with no direction; its first step gives one."
unfoldable pub grow : (least : ℕ) → Direction → Segment → Grown
grow least d fresh = grown (of_length least d 1)
grow least d (running was n) = not_against was d (of_length least d (suc n))
grow least d paid = grown (paid_toward d)
grow least d (paid_toward was) = not_against was d (paid_toward d)
