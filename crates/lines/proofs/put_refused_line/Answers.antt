-- `lines::put_refused_line` meets its contract: the five parts are put one after the other (`put_then`), and
-- there is room for the digits (`length_word`). Assumes nothing.
use mathlib.Core.List.{[], ◌∷◌, ◌++◌}
use native.Mathlib.Omega.{arith}
use Rattle.lines.specs.Lines.{decimal, refused_text, at_text, newline, refused_line}
use Rattle.lines.proofs.Decimals.{length_word, length_refused}
use Rattle.lines.proofs.Putting.{put_then, written}
use Rattle.lines.proofs.put_refused_line.Goals as goal

pub returns : goal.returns
unfolding refused_line
returns c =
    let a = c.args in
    let n = a.number in
    let p = a.place in
    let first = c.put_text-at.ensures in
    let second = c.put_decimal-at.ensures in
    let third = c.put_text-at-2.ensures in
    let fourth = c.put_decimal-at-2.ensures in
    let fifth = c.put_text.ensures in
    let end = newline ∷ [] in
    let p-end = put_then _ _ _ _ _ _ (decimal p) end fourth fifth in
    let at-end = put_then _ _ _ _ _ _ at_text (decimal p ++ end) third p-end in
    let n-end = put_then _ _ _ _ _ _ (decimal n) (at_text ++ (decimal p ++ end)) second at-end in
    written a.line.now _ _ (refused_line n p) (put_then _ _ _ _ _ _ refused_text (decimal n ++ (at_text ++ (decimal p ++ end))) first n-end)
    (omega (arith, length_refused n p (omega arith) (omega arith)))
