-- `rules::list::extras_of` meets its contract: the bytes below have their penalty.
use Rattle.std.specs.Prelude.{replicate}
use Rattle.rules.specs.PriceLists.{extra_field}
use Rattle.rules.proofs.Lists.{Filled}
use Rattle.rules.proofs.list.extras_of.Given as goal

abbrev pub invariant-loop-byte : goal.invariant-loop-byte
invariant-loop-byte l = Filled (extra_field l.guide l.short) 0 (replicate 8 0) l.extras l.byte
