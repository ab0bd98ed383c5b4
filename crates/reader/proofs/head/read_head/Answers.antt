-- `reader::head::read_head` meets its contract: what the group of the head holds decides each rule.
use borrow.Author.Tests.{eq-eqb, ne_eqb, le-leb, lt-leb}
use mathlib.Core.Path.{◌≡◌, sym, ap, ◌∙◌}
use Rattle.bits.specs.Bits.{bits_of}
use Rattle.job.specs.Grid.{vertices}
use Rattle.job.specs.Reading.{read_head, head_at, good, ◌>>=◌, ◌>>◌, rule}
use Rattle.reader.specs.Structs.{head_read}
use Rattle.job.specs.Structs.{grid_of}
use Rattle.job.specs.declared.groups.Head.{Head}
use Rattle.reader.proofs.Heads.{cut_head, whole_head, head_small}
use Rattle.reader.proofs.head.read_head.Goals as goal

pub returns-in_default : goal.returns-in_default
unfolding read_head ◌>>=◌ ◌>>◌ rule head_read
returns-in_default c = rw (c.at.ensures, cut_head _ (sym c.head_group.ensures ∙ c.in_default.is))

pub returns-then-edition-ne-EDITION : goal.returns-then-edition-ne-EDITION
unfolding read_head ◌>>=◌ ◌>>◌ rule head_read
returns-then-edition-ne-EDITION c =
    let h = whole_head _ _ _ (sym c.head_group.ensures ∙ c.in-Some.is) in
    rw (c.at-then-edition-ne-EDITION.ensures, h.whole, ← h.edition, ne_eqb _ 1 c.if-edition-ne-EDITION.true)

pub vertices-requires : goal.vertices-requires
vertices-requires c =
    let h = whole_head _ _ _ (sym c.head_group.ensures ∙ c.in-Some.is) in
    rw h.head (head_small _)

pub returns-then-vertices-gt-MOST_VERTICES : goal.returns-then-vertices-gt-MOST_VERTICES
unfolding read_head ◌>>=◌ ◌>>◌ rule head_read
returns-then-vertices-gt-MOST_VERTICES c =
    let h = whole_head _ _ _ (sym c.head_group.ensures ∙ c.in-Some.is) in
    let counted : c.vertices.result ≡ vertices (head_at (bits_of c.args.s.now) 0).grid = c.vertices.ensures ∙ ap (λ (h : Head). vertices (grid_of h.grid)) h.head in
    rw (
      c.at-then-vertices-gt-MOST_VERTICES.ensures,
      h.whole,
      ← h.edition,
      eq-eqb _ 1 c.if-edition-ne-EDITION.false,
      ← counted,
      lt-leb _ 16384 c.if-vertices-gt-MOST_VERTICES.true,
    )

pub returns : goal.returns
unfolding read_head ◌>>=◌ ◌>>◌ rule head_read
returns c =
    let h = whole_head _ _ _ (sym c.head_group.ensures ∙ c.in-Some.is) in
    let counted : c.vertices.result ≡ vertices (head_at (bits_of c.args.s.now) 0).grid = c.vertices.ensures ∙ ap (λ (h : Head). vertices (grid_of h.grid)) h.head in
    rw (h.whole, ← h.edition, eq-eqb _ 1 c.if-edition-ne-EDITION.false, ← counted, le-leb _ 16384 c.if-vertices-gt-MOST_VERTICES.false)
    (ap good h.head)
