-- What stands while a net is joined: its tree, its unjoined pins, and the metal of every net.
-- Specification: section 3.1.
--     metal_at_first    every pin is metal of its net from the start
--     Standing          of the net at hand
--     begun, joined_by  before its first join, and after one
use Rattle.std.specs.Prelude.{ℕ, zero, suc, List, [], ◌∷◌, ◌++◌, map, true, false, eqb}
use Rattle.job.specs.Job.{Job}
use Rattle.rules.specs.Views.{pins_of}
use Rattle.rules.specs.Steps.{Made}
use Rattle.rules.specs.Walks.{vertices_of, laid_of}

-- "every pin counts, joined or not"
unfoldable pub metal_at_first : Job → List (List ℕ)
metal_at_first j = map (pins_of j.grid) j.nets

pub record Standing : Type 0 where
  pub tree : List ℕ
  pub unjoined : List ℕ
  pub metal : List (List ℕ)

-- "A net's tree starts as its first pin."
unfoldable pub begun : (pins : List ℕ) → (metal : List (List ℕ)) → Standing
begun [] metal = record { tree = []; unjoined = []; metal = metal }
begun (first ∷ others) metal = record { tree = first ∷ []; unjoined = others; metal = metal }

-- the pins but one
unfoldable pub without : (pin : ℕ) → (pins : List ℕ) → List ℕ
without pin [] = []
without pin (p ∷ ps) = elim (eqb p pin) [ true ↦ without pin ps | false ↦ p ∷ without pin ps ]

-- metal with more for the k-th net
unfoldable pub more : (k : ℕ) → List ℕ → List (List ℕ) → List (List ℕ)
more k vs [] = []
more zero vs (own ∷ others) = (own ++ vs) ∷ others
more (suc k) vs (other ∷ rest) = other ∷ more k vs rest

-- "Its vertices enter the tree; its extensions are metal but by themselves no starting point, and a pin under
-- one stays unjoined." "A pin is joined if it is the net's first or an earlier record of the net ends there."
unfoldable pub joined_by : (k : ℕ) → Standing → (end : ℕ) → List Made → Standing
joined_by k s end made =
    record {
      tree = s.tree ++ vertices_of made;
      unjoined = without end s.unjoined;
      metal = more k (vertices_of made ++ laid_of made) s.metal;
    }
