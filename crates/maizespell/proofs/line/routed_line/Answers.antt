-- `maizespell::line::routed_line` meets its contract: routing is refused, or its plan is written and has
-- room.
use Prim.Native.Nat.{ℕ}
use native.Mathlib.Omega.{arith}
use Rattle.std.proofs.lemmas.List.{length-take}
use Rattle.maizespell.proofs.Cases.{routed_refused, routed_plan, routed_room}
use Rattle.maizespell.proofs.line.routed_line.Goals as goal

pub returns-then-routed-ne0 : goal.returns-then-routed-ne0
returns-then-routed-ne0 c =
    let bytes = c.args.bytes.now in
    let routed = c.maizespell_routing-routed in
    rw (routed_refused bytes routed.result routed.ensures.result c.if-routed-ne0.true) c.put_refused_line.ensures

pub slice_bounds-plan-end : goal.slice_bounds-plan-end
slice_bounds-plan-end c =
    let routed = c.maizespell_routing-routed in
    omega (arith, routed_room c.args.bytes.now routed.result routed.ensures.result, routed.auto.plan)

pub slice_bounds-put_hex_line-end : goal.slice_bounds-put_hex_line-end
slice_bounds-put_hex_line-end c =
    let routed = c.maizespell_routing-routed in
    omega (arith, routed_room c.args.bytes.now routed.result routed.ensures.result, routed.auto.plan, length-take {A = ℕ})

pub put_hex_line-requires : goal.put_hex_line-requires
put_hex_line-requires c =
    let routed = c.maizespell_routing-routed in
    omega (arith, routed_room c.args.bytes.now routed.result routed.ensures.result, length-take {A = ℕ})

pub returns : goal.returns
returns c =
    let bytes = c.args.bytes.now in
    let routed = c.maizespell_routing-routed in
    rw (routed_plan bytes routed.result routed.ensures.result _ routed.ensures.plan c.if-routed-ne0.false) c.put_hex_line.ensures
