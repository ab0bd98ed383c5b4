-- `bounds::fill::fill_entries` meets its contract: all three axes are filled.
use Prim.Native.Nat.{◌-◌}
use mathlib.Core.Path.{◌≡◌, ◌∙◌}
use native.Mathlib.Omega.{arith}
use lib.ListN.{take}
use Rattle.std.proofs.Common.{rules, tests}
use Rattle.job.specs.Structs.{no_line}
use Rattle.job.specs.declared.groups.Layer.{Layer}
use Rattle.rules.specs.Structs.{tech_by}
use Rattle.bounds.specs.Fills.{wires, vias}
use Rattle.bounds.proofs.Axes.{prices_of, fold_fits, cheapest_fold}
use Rattle.bounds.proofs.Boxes.{box_low}
use Rattle.bounds.proofs.Boundings.{bounds_made}
use Rattle.bounds.proofs.fill.fill_entries.Goals as goal

pub slice_bounds-vias-count : goal.slice_bounds-vias-count
unfolding tech_by
slice_bounds-vias-count c = c.requires.0.good.grid.some_layers

pub unjoined_box-around-requires : goal.unjoined_box-around-requires
unjoined_box-around-requires c =
    let pre = c.requires in
    (pre.0.sized.small, pre.2)

pub fill_axis-requires : goal.fill_axis-requires
fill_axis-requires c =
    (omega (arith, c.requires.0.sized.small.rows), c.requires.0.sized.small.rows, rw c.unjoined_box-around.ensures (box_low _ _ _ _).rows, omega (arith, c.cheapest-wire.ensures, fold_fits 1023 (take c.args.tech.grid.layers c.map-wires.result)))

pub fill_axis-requires-2 : goal.fill_axis-requires-2
fill_axis-requires-2 c =
    (omega (arith, c.requires.0.sized.small.columns), c.requires.0.sized.small.columns, rw c.unjoined_box-around.ensures (box_low _ _ _ _).columns, omega (arith, c.cheapest-wire.ensures, fold_fits 1023 (take c.args.tech.grid.layers c.map-wires.result)))

pub fill_axis-requires-3 : goal.fill_axis-requires-3
fill_axis-requires-3 c =
    (omega (arith, c.requires.0.sized.small.layers), omega (arith, c.requires.0.sized.small.layers), rw c.unjoined_box-around.ensures (box_low _ _ _ _).layers, omega (arith, c.cheapest-via.ensures, fold_fits 1023 (take (c.args.tech.grid.layers - 1) c.map-vias.result)))

pub returns : goal.returns
returns c =
    let all-wires : c.map-wires.result ≡ wires c.args.tech =
    prices_of (λ (l : Layer). l.wire) c.args.tech.layers c.map-wires.result (omega (arith, c.map-wires.ensures.items.long))
    (λ k d h. let one = c.map-wires.ensures.items.at k no_line d (omega arith) in search (rules, tests)) in
    let all-vias : c.map-vias.result ≡ vias c.args.tech =
    prices_of (λ (l : Layer). l.via) c.args.tech.layers c.map-vias.result (omega (arith, c.map-vias.ensures.items.long))
    (λ k d h. let one = c.map-vias.ensures.items.at k no_line d (omega arith) in search (rules, tests)) in
    let layers = c.requires.0.sized.small.layers in
    let wire =
    rw all-wires at
    (c.cheapest-wire.ensures ∙ cheapest_fold c.map-wires.result c.args.tech.grid.layers (omega (arith, c.map-wires.ensures.items.long, layers))) in
    let via =
    rw all-vias at
    (c.cheapest-via.ensures ∙ cheapest_fold c.map-vias.result (c.args.tech.grid.layers - 1) (omega (arith, c.map-vias.ensures.items.long, layers))) in
    bounds_made c.requires.0 _ _ _ c.args.bounds.now (omega arith) c.requires.2 c.requires.1 c.unjoined_box-around.ensures wire via c.fill_axis.ensures c.fill_axis-2.ensures c.fill_axis-3.ensures
