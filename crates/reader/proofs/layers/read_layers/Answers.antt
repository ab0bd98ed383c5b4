-- `reader::layers::read_layers` meets its contract.
use mathlib.Core.Path.{◌≡◌, refl, sym, ◌∙◌}
use Rattle.job.specs.Structs.{no_line, eight, layers_of}
use Rattle.job.proofs.Refusals.{passed_on}
use Rattle.reader.proofs.Lines.{lines_none, lines_refused, lines_next, lines_all}
use Rattle.reader.proofs.layers.read_layers.Goals as goal

pub loop-layer-init : goal.loop-layer-init
unfolding layers_of eight no_line
loop-layer-init c =
    let zeros = c.default-layers.ensures in
    let none : c.default-layers.result ≡ no_line = λ i. record {
      wire = zeros.0 i;
      via = zeros.1.0 i;
      least = zeros.1.1.0 i;
      area = zeros.1.1.1 i;
    } in
    lines_none _ _ _ (rw none refl)

pub returns-in_err-layers : goal.returns-in_err-layers
returns-in_err-layers c =
    passed_on _ _ c.from_residual.ensures
    ∙ sym (lines_refused _ _ _ _ c.loop-layer.invariant _ _ c.loop-layer-test.true c.in_err-layers.ensures)

pub loop-layer-preserved : goal.loop-layer-preserved
loop-layer-preserved c =
    lines_next _ _ _ _ c.loop-layer.invariant _ c.requires c.loop-layer-test.true c.in_ok-layers.ensures

pub returns : goal.returns
returns c = sym (lines_all _ _ _ _ c.loop-layer.invariant c.loop-layer-test.false)
