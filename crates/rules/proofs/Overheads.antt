-- What holds of every overhead.
--     overhead_holds     a claim holds of what a segment owes where it holds of nothing, of the area penalty,
--                        of every extension and of a move that is forbidden
use Prim.Native.Nat.{ℕ, ◌*◌, ◌≤◌}
use mathlib.Core.Path.{◌≡◌, refl}
use mathlib.Core.List.{List, []}
use mathlib.Core.Bool.{Bool, true, false, cond}
use native.Mathlib.Omega.{arith}
use lib.ListN.{length}
use lib.Dec.{eqb}
use borrow.Author.Tests.{eqb-false}
use Rattle.job.specs.Job.{closed_price}
use Rattle.rules.specs.Views.{View}
use Rattle.rules.specs.Segments.{Direction, high, Segment, fresh, running, paid, paid_toward}
use Rattle.rules.specs.Prices.{Tech, line_of}
use Rattle.rules.specs.Overheads.{first_of, both_ends, Overhead, forbidden, owes, otherwise, lengthened_by, too_short, overhead_of}

module _ (t : Tech) (view : View) (v : ℕ) (Claim : Overhead → Type 0) (none : Claim (owes 0 [] 0 0)) (no : Claim forbidden)
    (pays : ((line_of t v).area ≡ closed_price → ⊥) → Claim (owes (line_of t v).area [] 0 1))
    (lays : (d : Direction) (n missing : ℕ) → missing ≤ (line_of t v).min_length
    → Claim (owes ((line_of t v).wire * missing) (both_ends t.grid view d missing v (first_of t.grid d n v)) missing 0)) where
  -- the area penalty, or a move that is forbidden
  otherwise-holds : Claim (otherwise (line_of t v).area)
  unfolding otherwise
  otherwise-holds = by (eqb (line_of t v).area closed_price) refl
    where
      by : (b : Bool) → eqb (line_of t v).area closed_price ≡ b → Claim (cond b forbidden (owes (line_of t v).area [] 0 1))
      by true e = no
      by false e = pays (eqb-false _ _ e)

  -- an extension, or what is owed without it
  lengthened_holds : (missing : ℕ) (laid : List ℕ) → Claim (owes ((line_of t v).wire * missing) laid missing 0)
      → Claim (lengthened_by (line_of t v) missing laid)
  unfolding lengthened_by
  lengthened_holds missing laid with_it = by (eqb (length laid) missing)
    where
      by : (b : Bool) → Claim (cond b (owes ((line_of t v).wire * missing) laid missing 0) (otherwise (line_of t v).area))
      by true = with_it
      by false = otherwise-holds

  -- of a segment that is too short
  short_holds : (d : Direction) (n : ℕ) → Claim (too_short t.grid (line_of t v) view v d n)
  unfolding too_short
  short_holds d n = lengthened_holds _ _ (lays d n _ (omega arith))

  -- what a segment owes
  pub overhead_holds : (s : Segment) → Claim (overhead_of t view v s)
  unfolding overhead_of
  overhead_holds fresh = short_holds high 0
  overhead_holds (running d n) = short_holds d n
  overhead_holds paid = none
  overhead_holds (paid_toward d) = none
