-- `replay::nets::read_nets` meets its contract: reading the nets that are left gives what reading all gives.
use Prim.Native.Nat.{◌-◌}
use Rattle.bits.specs.Bits.{bits_of}
use Rattle.bits.proofs.Laws.{bits_of_bits}
use Rattle.replay.proofs.Netting.{Netting}
use Rattle.replay.proofs.nets.read_nets.Given as goal

abbrev pub invariant-loop-done : goal.invariant-loop-done
invariant-loop-done l =
    Netting l.s l.tech l.occupants l.initial.map (bits_of l.plan) (bits_of_bits l.plan) l.initial.counts l.map l.counts l.pins l.boxes l.position l.at l.totals l.done (l.nets - l.done)
