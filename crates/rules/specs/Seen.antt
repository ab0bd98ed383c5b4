-- What the net at hand sees, as the code holds it: a byte for each vertex.
use Rattle.std.specs.Prelude.{ℕ, ◌/◌, ◌%◌, List, Bool, ◌&&◌, ◌||◌, not, get_or, ltb, eqb}
use Rattle.job.specs.Grid.{Grid, vertices}
use Rattle.rules.specs.Views.{View}

-- whether a byte holds a flag, which is 1, 2 or 4
unfoldable pub holds : (flag byte : ℕ) → Bool
holds flag byte = eqb (byte / flag % 2) 1

-- neither blocked nor taken
unfoldable pub clear_byte : (byte : ℕ) → Bool
clear_byte byte = not (holds 1 byte) && not (holds 2 byte)

-- 1 says that the vertex is blocked, 2 that it is taken, 4 that it lies outside the guide
unfoldable pub view_by : Grid → (seen : List ℕ) → View
view_by g seen =
    record {
      blocked = λ v. not (ltb v (vertices g)) || holds 1 (get_or seen v 0);
      taken = λ v. ltb v (vertices g) && holds 2 (get_or seen v 0);
      guided = λ v. ltb v (vertices g) && not (holds 4 (get_or seen v 0));
    }
