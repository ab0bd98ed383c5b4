-- Sizing's answer from what reading answered.
--     sizing_told     of a good job, or of a refused one
use mathlib.Core.Path.{◌≡◌}
use mathlib.Core.List.{List}
use Prim.Native.Nat.{ℕ}
use Rattle.std.proofs.Common.{Result, Ok, Err}
use Rattle.job.specs.declared.refusal.Refused.{Refused}
use Rattle.router.specs.Held.{IsHeld, sizing_answer}
use Rattle.router.specs.Sizing.{sized, sizing_of}
use Rattle.router.specs.declared.held.Held.{Held}

pub sizing_told : (bytes : List ℕ) (occupants : List ℕ) (x : Result Held Refused) → IsHeld bytes occupants x → sizing_answer x ≡ sizing_of bytes
unfolding sizing_of sized
sizing_told bytes occupants (Ok held) h = rw (h.read, h.vertices, h.work)
sizing_told bytes occupants (Err r) e = rw e
