-- `rules::price::base_price` meets its contract: each kind of move by the line that prices it.
use mathlib.Core.Path.{refl, ap}
use Rattle.job.specs.Structs.{no_line}
use Rattle.rules.specs.PriceLists.{base_in}
use Rattle.rules.specs.Structs.{line_at, kind_by}
use Rattle.rules.proofs.price.base_price.Goals as goal

pub overflow_sub-result : goal.overflow_sub-result
unfolding kind_by
overflow_sub-result c = c.requires.1 (ap kind_by c.in-Down.is)

pub returns-in-Along : goal.returns-in-Along
unfolding base_in line_at no_line kind_by
returns-in-Along c = rw c.in-Along.is refl

pub returns-in-Down : goal.returns-in-Down
unfolding base_in line_at no_line kind_by
returns-in-Down c = rw c.in-Down.is refl

pub returns-in-Up : goal.returns-in-Up
unfolding base_in line_at no_line kind_by
returns-in-Up c = rw c.in-Up.is refl
