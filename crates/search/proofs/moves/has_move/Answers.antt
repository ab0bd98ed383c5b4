-- `search::moves::has_move` meets its contract.
use Rattle.search.proofs.Bits.{has_told}
use Rattle.search.proofs.moves.has_move.Goals as goal

pub returns : goal.returns
returns c = rw c.bit_of.ensures (has_told c.args.byte c.args.number)
