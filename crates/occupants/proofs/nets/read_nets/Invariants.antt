-- `occupants::nets::read_nets` meets its contract: reading the nets that are left is reading all of them.
use Rattle.job.specs.Structs.{grid_of}
use Rattle.occupants.proofs.NetTurns.{NetsLeft}
use Rattle.occupants.proofs.nets.read_nets.Given as goal

abbrev pub invariant-loop-net : goal.invariant-loop-net
invariant-loop-net l = NetsLeft l.s (grid_of l.grid) l.count l.from l.initial.occupants l._net l.at l.occupants
