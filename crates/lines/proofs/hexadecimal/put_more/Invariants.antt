-- `lines::hexadecimal::put_more` meets its contract. The invariant, `ToPut`: to put the bytes that are left
-- gives what putting all of them gave. Assumes nothing.
use Prim.Native.Nat.{◌+◌, ◌*◌}
use mathlib.Core.Path.{◌≡◌}
use lib.ListN.{drop}
use Rattle.lines.specs.Lines.{hex_more}
use Rattle.lines.proofs.Turn.{ToPut}
use Rattle.lines.proofs.hexadecimal.put_more.Given as goal

abbrev pub invariant-loop-byte : goal.invariant-loop-byte
invariant-loop-byte l = (l.next ≡ l.at + 3 * l.byte-index) × ToPut l.initial.line l.at (hex_more l.bytes) l.line l.next (hex_more (drop l.byte-index l.bytes))
