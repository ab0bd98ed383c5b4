-- A cost, or none.
use Rattle.std.specs.Prelude.{ℕ, ◌+◌}

pub data Cost : Type 0 where
  fin : ℕ → Cost
  inf : Cost

abbrev pub plus : ℕ → Cost → Cost
plus p (fin n) = fin (p + n)
plus p inf = inf
