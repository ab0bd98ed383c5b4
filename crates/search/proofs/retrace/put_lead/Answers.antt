-- `search::retrace::put_lead` meets its contract: the key stays, and the slot is the lead's.
use mathlib.Core.Path.{refl}
use Rattle.heap.specs.Heaps.{key_of, word_of}
use Rattle.search.proofs.retrace.put_lead.Goals as goal

pub returns : goal.returns
unfolding key_of word_of
returns c = refl
