-- `lines::put_hex_line` meets its contract: the first byte and those after it are the line. Assumes nothing.
use mathlib.Core.Path.{refl}
use mathlib.Core.List.{[]}
use native.Mathlib.Omega.{arith}
use lib.ListN.{get_or}
use Rattle.lines.specs.Lines.{hex_byte}
use Rattle.lines.proofs.Putting.{put_then, written}
use Rattle.lines.proofs.Turn.{hex_none, hex_some, length_line}
use Rattle.lines.proofs.put_hex_line.Goals as goal

pub returns-in-empty : goal.returns-in-empty
returns-in-empty c = rw (hex_none c.args.bytes.now c.in-empty.len_below) (written _ _ _ _ c.put_text.ensures (omega arith))

pub returns-in-len1-up : goal.returns-in-len1-up
unfolding hex_byte
returns-in-len1-up c =
    let bytes = c.args.bytes.now in
    let line = put_then c.args.line.now _ _ 0 2 _ (hex_byte (get_or bytes 0 0) []) _ (record { contents = c.put_byte.ensures; next_is = refl }) c.put_more.ensures in
    written _ _ _ _ (rw (hex_some bytes c.in-len1-up.len_at_least) line) (omega (arith, length_line bytes))
