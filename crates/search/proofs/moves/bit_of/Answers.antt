-- `search::moves::bit_of` meets its contract.
use native.Mathlib.Omega.{arith}
use mathlib.Core.Path.{refl, sym}
use Rattle.search.specs.Bits.{bit_of}
use Rattle.search.proofs.Bits.{last_bit}
use Rattle.search.proofs.moves.bit_of.Goals as goal

pub returns-in-0 : goal.returns-in-0
unfolding bit_of
returns-in-0 c = rw c.in-0.is refl

pub returns-in-1 : goal.returns-in-1
unfolding bit_of
returns-in-1 c = rw c.in-1.is refl

pub returns-in-2 : goal.returns-in-2
unfolding bit_of
returns-in-2 c = rw c.in-2.is refl

pub returns-in_default : goal.returns-in_default
returns-in_default c = sym (last_bit c.args.number (omega arith) (omega arith) (omega arith))
