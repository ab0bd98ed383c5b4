-- `search::moves::with_move` meets its contract.
use Rattle.search.proofs.Bits.{with_told}
use Rattle.search.proofs.moves.with_move.Goals as goal

pub returns : goal.returns
returns c = rw c.bit_of.ensures (with_told c.args.byte c.args.number)
