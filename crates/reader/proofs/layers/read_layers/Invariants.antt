-- `reader::layers::read_layers` meets its contract: the lines read so far, ahead of those still to be read,
-- are what reading all gives.
use Prim.Native.Nat.{◌-◌}
use Rattle.bits.specs.Bits.{bits_of}
use Rattle.reader.proofs.Lines.{LinesRead}
use Rattle.reader.proofs.layers.read_layers.Given as goal

abbrev pub invariant-loop-layer : goal.invariant-loop-layer
invariant-loop-layer l = LinesRead (bits_of l.s) l.count l.layers l.layer

abbrev pub decreases-loop-layer : goal.decreases-loop-layer
decreases-loop-layer l = l.count - l.layer
