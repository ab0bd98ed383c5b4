-- `metal::codes::lay` meets its contract.
use Rattle.metal.proofs.Laid.{laid_bare, laid_other, map_own}
use Rattle.metal.proofs.codes.lay.Goals as goal

pub returns-then-code-eq0 : goal.returns-then-code-eq0
returns-then-code-eq0 c = rw (laid_bare _ _ c.if-code-eq0.true)

pub returns-then-code-net : goal.returns-then-code-net
returns-then-code-net c = rw (laid_other _ _ c.if-code-eq0.false c.if-code-net.true)

pub returns-else-code-net : goal.returns-else-code-net
returns-else-code-net c = map_own _ _ _ c.if-code-net.false
