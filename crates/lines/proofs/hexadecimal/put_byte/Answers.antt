-- `lines::hexadecimal::put_byte` meets its contract: two stores, one after the other. Assumes nothing.
use native.Mathlib.Numerals.{add-one}
use native.Mathlib.Omega.{arith}
use lib.ListN.{length-set}
use Rattle.lines.specs.Lines.{hex_byte}
use Rattle.lines.proofs.hexadecimal.put_byte.Goals as goal

pub bounds-line-at-2 : goal.bounds-line-at-2
bounds-line-at-2 c = simp length-set (omega arith)

pub returns : goal.returns
unfolding hex_byte
returns c = rw (c.code.ensures, c.code-2.ensures, add-one)
