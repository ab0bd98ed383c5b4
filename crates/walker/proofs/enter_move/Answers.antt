-- `walker::enter_move` meets its contract.
use mathlib.Core.Path.{refl}
use native.Mathlib.Omega.{arith}
use Rattle.metal.proofs.Laid.{laid_length, laid_then}
use Rattle.walker.proofs.enter_move.Goals as goal

pub lay_extension-requires : goal.lay_extension-requires
lay_extension-requires c = let pre = c.requires in (pre.0, pre.1, pre.3)

pub lay-requires : goal.lay-requires
lay-requires c =
    let pre = c.requires in
    rw (c.lay_extension.ensures, laid_length) (omega (arith, pre.2, pre.3))

pub returns : goal.returns
returns c = record {
  map = laid_then _ _ _ _ c.lay_extension.ensures c.lay.ensures;
  spots = refl;
}
