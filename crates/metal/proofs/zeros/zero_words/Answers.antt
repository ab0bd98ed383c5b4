-- `metal::zeros::zero_words` meets its contract.
use Rattle.metal.proofs.Slices.{filled}
use Rattle.metal.proofs.zeros.zero_words.Goals as goal

pub returns : goal.returns
returns c = filled _ c.requires (c.fill.ensures.after (λ y e. e))
