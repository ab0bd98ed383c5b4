-- `lines::words::put_decimal` meets its contract: what is printed are the number's digits (`decimal_text`).
-- Assumes nothing.
use mathlib.Core.Path.{◌≡◌, ◌∙◌}
use native.Mathlib.Omega.{arith}
use Rattle.lines.specs.Lines.{decimal}
use Rattle.lines.proofs.Decimals.{decimal_text}
use Rattle.lines.proofs.words.put_decimal.Goals as goal

pub put_text-requires : goal.put_text-requires
put_text-requires c = rw (c.as_bytes.ensures.value, c.format.ensures.text, decimal_text c.args.number (omega arith)) c.requires

pub returns : goal.returns
returns c =
    let text : c.as_bytes.result.now ≡ decimal c.args.number = c.as_bytes.ensures.value ∙ c.format.ensures.text ∙ decimal_text c.args.number (omega arith) in
    rw text at c.put_text.ensures
