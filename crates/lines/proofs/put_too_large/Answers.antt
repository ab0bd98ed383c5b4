-- `lines::put_too_large` meets its contract: the text is the line. Assumes nothing.
use Rattle.lines.specs.Lines.{too_large_line}
use Rattle.lines.proofs.Putting.{written}
use Rattle.lines.proofs.put_too_large.Goals as goal

pub returns : goal.returns
unfolding too_large_line
returns c =
    written c.args.line.now _ _ too_large_line c.put_text.ensures c.requires
