-- `routing::nets::route_nets` meets its contract: what has been routed, then the nets that are left, is the
-- whole.
use Prim.Native.Nat.{◌-◌}
use mathlib.Core.Path.{◌≡◌}
use Rattle.routing.proofs.Netting.{Netting}
use Rattle.routing.proofs.nets.route_nets.Given as goal

abbrev pub invariant-loop-index : goal.invariant-loop-index
invariant-loop-index l =
    Netting l.s l.tech l.occupants l.initial.map l.initial.plan l.map l.pins l.boxes l.plan l.position l.routed.bits l.routed.totals l.index (l.nets - l.index) × (l.work ≡ l.initial.work)
