-- `maizespell::line::good_line` meets its contract: the tests are the definition's.
use Rattle.maizespell.proofs.Cases.{good_wide, good_long, good_small}
use Rattle.maizespell.proofs.line.good_line.Goals as goal

pub returns-then-vertices-gt-MOST_VERTICES : goal.returns-then-vertices-gt-MOST_VERTICES
returns-then-vertices-gt-MOST_VERTICES c =
    let a = c.args in
    rw (good_wide a.bytes.now a.vertices a.largest c.if-vertices-gt-MOST_VERTICES.true) c.put_too_large.ensures

pub returns-then-largest-gt7 : goal.returns-then-largest-gt7
returns-then-largest-gt7 c =
    let a = c.args in
    rw (good_long a.bytes.now a.vertices a.largest c.if-vertices-gt-MOST_VERTICES.false c.if-largest-gt7.true) c.put_too_large-then-largest-gt7.ensures

pub returns : goal.returns
returns c =
    let a = c.args in
    rw (good_small a.bytes.now a.vertices a.largest c.if-vertices-gt-MOST_VERTICES.false c.if-largest-gt7.false) c.routed_line.ensures
