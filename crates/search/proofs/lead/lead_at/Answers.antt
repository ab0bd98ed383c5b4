-- `search::lead::lead_at` meets its contract: a slot's remainder is its word's.
use native.Mathlib.Omega.{arith}
use Rattle.heap.specs.Heaps.{slot_of}
use Rattle.search.proofs.lead.lead_at.Goals as goal

pub returns : goal.returns
unfolding slot_of
returns c = omega arith
