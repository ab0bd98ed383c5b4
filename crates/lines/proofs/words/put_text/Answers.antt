-- `lines::words::put_text` meets its contract: the text in its place is its codes put one by one (`put_part`).
-- Assumes nothing.
use mathlib.Core.Path.{refl}
use Rattle.lines.proofs.Putting.{put_part}
use Rattle.lines.proofs.words.put_text.Goals as goal

pub returns : goal.returns
returns c =
    let a = c.args in
    record {
      contents = rw c.copy_from_slice.ensures.after (put_part a.line.now a.at a.text.now c.requires);
      next_is = refl;
    }
