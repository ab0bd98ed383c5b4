-- `bits::Cursor::whole` meets its contract: enough bytes are there where enough bits are (`whole_test`).
-- Assumes nothing.
use Rattle.bits.proofs.Turn.{whole_test}
use Rattle.bits.proofs.Cursor.whole.Goals as goal

pub returns : goal.returns
returns c = let a = c.args in whole_test a.s.now a.self.at a.width
