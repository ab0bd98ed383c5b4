-- What covering does to the occupants.
--     any_append                           a test holds in two lists where it holds in one of them
--     any_swap                             a test holds in lists whatever their order
--     occupants_alike                      occupants go by whether a vertex is on an obstacle or a pin, not
--                                          by the order of the lists
--     occupants_none                       no occupant is set at first
--     occupants_obstacle, occupants_pin    occupants after an obstacle, and after a pin on no obstacle
use Prim.Native.Nat.{ℕ, zero, suc, ◌≤◌, ◌<◌}
use mathlib.Core.Path.{◌≡◌, refl, sym, ap₂, ◌∙◌}
use mathlib.Core.List.{List, [], ◌∷◌, ◌++◌}
use mathlib.Core.Bool.{Bool, true, false, ◌||◌, cond, or_assoc}
use native.Mathlib.Omega.{arith}
use lib.ListN.{length, get_or, set, replicate, length-set, length-replicate}
use lib.Seq.{get_or-set_same, get_or-set_other}
use lib.Dec.{T}
use Rattle.job.specs.Lists.{any, all}
use Rattle.job.specs.Grid.{Grid, Vertex, vertices, inside, same, vertex_number}
use Rattle.job.specs.Job.{Obstacle}
use Rattle.job.specs.Reading.{covered, on_obstacle}
use Rattle.occupants.specs.Occupants.{cover_all, cover_obstacle, occupant_of, Occupants}
use Rattle.job.proofs.Tests.{and_holds}
use Rattle.job.proofs.Grids.{same_eq, same_refl, number_below, number_inj}

-- ---- lists

-- a test holds in two lists where it holds in one of them
pub any_append : {A : Type 0} (test : A → Bool) (xs ys : List A) → any test (xs ++ ys) ≡ (any test xs || any test ys)
unfolding any
any_append test [] ys = refl
any_append test (x ∷ xs) ys = rw (any_append test xs ys) (sym (or_assoc (test x) (any test xs) (any test ys)))

-- two lists before a third may be swapped
pub any_swap : {A : Type 0} (test : A → Bool) (xs ys zs : List A) → any test ((xs ++ ys) ++ zs) ≡ any test (ys ++ (xs ++ zs))
any_swap test xs ys zs = simp any_append (by (any test xs) (any test ys) (any test zs))
  where
    by : (a b c : Bool) → (a || b || c) ≡ (b || (a || c))
    by true true c = refl
    by true false c = refl
    by false b c = refl

-- occupants go by whether a vertex is on an obstacle or a pin, not by the order of the lists
pub occupants_alike : (g : Grid) {obstacles others : List Obstacle} {pins occupied : List Vertex} {m : List ℕ}
    → ((v : Vertex) → on_obstacle g others v ≡ on_obstacle g obstacles v) → ((v : Vertex) → any (same v) occupied ≡ any (same v) pins)
    → Occupants g obstacles pins m → Occupants g others occupied m
unfolding occupant_of
occupants_alike g on at occupants =
    record { size = occupants.size; says = λ v h. occupants.says v h ∙ ap₂ (λ (b c : Bool). cond b 1 (cond c 2 0)) (sym (on v)) (sym (at v)) }

-- zeros all along
get_or_zeros : (n i : ℕ) → ◌≡◌ {A = ℕ} (get_or (replicate n 0) i 0) 0
get_or_zeros zero i = refl
get_or_zeros (suc n) zero = refl
get_or_zeros (suc n) (suc i) = get_or_zeros n i

-- no occupant is set at first, over a length that is no numeral
occupants_zeros : (g : Grid) (n : ℕ) → n ≡ 16384 → Occupants g [] [] (replicate n 0)
unfolding occupant_of on_obstacle any
occupants_zeros g n e = record { size = length-replicate n 0 ∙ e; says = λ v h. get_or_zeros n (vertex_number g v) }

-- no occupant is set at first
pub occupants_none : (g : Grid) → Occupants g [] [] (replicate 16384 0)
occupants_none g = occupants_zeros g 16384 refl

-- ---- one occupant

module _ (g : Grid) (small : vertices g ≤ 16384) where
  -- what a vertex holds after an occupant is put at another, or at itself
  cover_one : (m : List ℕ) (x : ℕ) (v w : Vertex) → length m ≡ 16384 → T (inside g v) → T (inside g w)
      → get_or (set m (vertex_number g v) x) (vertex_number g w) 0 ≡ cond (same w v) x (get_or m (vertex_number g w) 0)
  cover_one m x v w size hv hw = by (same w v) refl
    where
      here : vertex_number g v < length m
      here = let low = number_below g v hv in omega arith

      by : (b : Bool) → same w v ≡ b → get_or (set m (vertex_number g v) x) (vertex_number g w) 0 ≡ cond b x (get_or m (vertex_number g w) 0)
      by true e = rw (same_eq w v e) (get_or-set_same m (vertex_number g v) x 0 here)
      by false e = get_or-set_other m (vertex_number g v) (vertex_number g w) x 0 (λ q. apart (number_inj g w v hw hv q))
        where
          apart : w ≡ v → ⊥
          apart q = let yes' : same w v ≡ true = rw q (same_refl v) in cc

  -- ---- an obstacle

  -- what a vertex holds after a list of vertices is covered
  cover_all_lem : (vs : List Vertex) (m : List ℕ) (w : Vertex) → length m ≡ 16384 → T (all (inside g) vs) → T (inside g w)
      → get_or (cover_all g vs m) (vertex_number g w) 0 ≡ cond (any (same w) vs) 1 (get_or m (vertex_number g w) 0)
  unfolding cover_all any all
  cover_all_lem [] m w size hs hw = refl
  cover_all_lem (v ∷ vs) m w size hs hw =
      let parts = (and_holds (inside g v) (all (inside g) vs)).0 hs in
      cover_all_lem vs (set m (vertex_number g v) 1) w (length-set m (vertex_number g v) 1 ∙ size) parts.1 hw
      ∙ rw (cover_one m 1 v w size parts.0 hw) (by (same w v) (any (same w) vs) (get_or m (vertex_number g w) 0))
    where
      by : (a b : Bool) (k : ℕ) → cond b 1 (cond a 1 k) ≡ cond (a || b) 1 k
      by true true k = refl
      by true false k = refl
      by false b k = refl

  -- covering vertices keeps the number of occupants
  length-cover_all : (vs : List Vertex) (m : List ℕ) → length (cover_all g vs m) ≡ length m
  unfolding cover_all
  length-cover_all [] m = refl
  length-cover_all (v ∷ vs) m = length-cover_all vs (set m (vertex_number g v) 1) ∙ length-set m (vertex_number g v) 1

  -- occupants after an obstacle inside
  pub occupants_obstacle : (o : Obstacle) (obstacles : List Obstacle) (pins : List Vertex) (m : List ℕ) → T (all (inside g) (covered g o))
      → Occupants g obstacles pins m → Occupants g (o ∷ obstacles) pins (cover_obstacle g o m)
  unfolding cover_obstacle occupant_of on_obstacle any
  occupants_obstacle o obstacles pins m h occupants =
      record {
        size = length-cover_all (covered g o) m ∙ occupants.size;
        says = λ v hv. cover_all_lem (covered g o) m v occupants.size h hv
            ∙ rw (occupants.says v hv) (by (any (same v) (covered g o)) (on_obstacle g obstacles v) (cond (any (same v) pins) 2 0));
      }
    where
      by : (a b : Bool) (k : ℕ) → cond a 1 (cond b 1 k) ≡ cond (a || b) 1 k
      by true b k = refl
      by false b k = refl

  -- ---- a pin

  -- occupants after a pin on no obstacle
  pub occupants_pin : (u : Vertex) (obstacles : List Obstacle) (pins : List Vertex) (m : List ℕ) → T (inside g u) → on_obstacle g obstacles u ≡ false
      → Occupants g obstacles pins m → Occupants g obstacles (u ∷ pins) (set m (vertex_number g u) 2)
  unfolding occupant_of any
  occupants_pin u obstacles pins m h free occupants =
      record {
        size = length-set m (vertex_number g u) 2 ∙ occupants.size;
        says = λ v hv. cover_one m 2 u v occupants.size h hv ∙ rw (occupants.says v hv) (by v (same v u) refl);
      }
    where
      by : (v : Vertex) (b : Bool) → same v u ≡ b
          → ◌≡◌ {A = ℕ} (cond b 2 (cond (on_obstacle g obstacles v) 1 (cond (any (same v) pins) 2 0)))
          (cond (on_obstacle g obstacles v) 1 (cond (b || any (same v) pins) 2 0))
      by v true e = rw (same_eq v u e, free)
      by v false e = refl
