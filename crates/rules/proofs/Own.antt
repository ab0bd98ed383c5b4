-- A net does not see its own metal.
--     others_own     more metal of a net changes nothing of the others' metal
--     view_own       nor what the net sees
use Prim.Native.Nat.{ℕ, zero, suc}
use mathlib.Core.Path.{◌≡◌, refl}
use mathlib.Core.List.{List, [], ◌∷◌}
use mathlib.Core.Bool.{◌&&◌}
use lib.Dec.{ltb}
use Rattle.job.specs.Grid.{vertices}
use Rattle.job.specs.Job.{Job}
use Rattle.rules.specs.Views.{others_hold, view_of}
use Rattle.rules.specs.Standings.{more}

-- more metal of a net changes nothing of the others' metal
pub others_own : (k : ℕ) (vs : List ℕ) (metal : List (List ℕ)) (v : ℕ) → others_hold k (more k vs metal) v ≡ others_hold k metal v
unfolding others_hold more
others_own k vs [] v = refl
others_own zero vs (own ∷ others) v = refl
others_own (suc k) vs (other ∷ rest) v = rw (others_own k vs rest v)

-- nor what the net sees
pub view_own : (j : Job) (k : ℕ) (vs : List ℕ) (metal : List (List ℕ)) → view_of j k (more k vs metal) ≡ view_of j k metal
unfolding view_of
view_own j k vs metal =
    λ i. record {
      blocked = (view_of j k metal).blocked;
      taken = λ v. ltb v (vertices j.grid) && others_own k vs metal v i;
      guided = (view_of j k metal).guided;
    }
