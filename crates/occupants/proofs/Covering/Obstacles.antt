-- Reading obstacles with occupants follows reading obstacles.
--     on_middle                             the order of obstacles does not matter
--     obstacle_follows, obstacles_follow    one obstacle, and many
use Prim.Native.Nat.{ℕ, zero, suc, ◌+◌, ◌*◌, ◌≤◌}
use mathlib.Core.Path.{◌≡◌, refl}
use mathlib.Core.List.{List, [], ◌∷◌, ◌++◌}
use native.Mathlib.Omega.{arith}
use lib.Dec.{T}
use Rattle.job.specs.Lists.{all}
use Rattle.job.specs.Grid.{Grid, Vertex, vertices, inside}
use Rattle.job.specs.Job.{Obstacle}
use Rattle.job.specs.Reading.{Read, refused, good, covered, on_obstacle, read_obstacle, read_many}
use Rattle.occupants.specs.Occupants.{cover_obstacle, cover_read, obstacles_from, Occupants}
use Rattle.occupants.proofs.Covering.Following.{Follows, both_stop, both_go, follows_then, follows_end}
use Rattle.occupants.proofs.Covering.Covered.{any_swap, occupants_alike, occupants_obstacle}
use Rattle.occupants.proofs.CoverTurns.{obstacle_told}

-- an obstacle in the middle may as well stand in front
on_middle : (g : Grid) (xs : List Obstacle) (o : Obstacle) (done : List Obstacle) (v : Vertex)
    → on_obstacle g ((o ∷ xs) ++ done) v ≡ on_obstacle g (xs ++ (o ∷ done)) v
unfolding on_obstacle
on_middle g xs o done v = any_swap _ (o ∷ []) xs done

module _ (bits : List ℕ) (g : Grid) (small : vertices g ≤ 16384) where
  -- an obstacle that was read is covered
  cover_follows : (read : Read Obstacle) (at : ℕ) (done : List Obstacle) (pins : List Vertex) (m : List ℕ)
      → ((o : Obstacle) → read ≡ good o → T (all (inside g) (covered g o))) → Occupants g done pins m
      → Follows (λ o. at + 27) (λ o. Occupants g (o ∷ done) pins) (cover_read g at m read) read
  unfolding cover_read
  cover_follows (refused n p) at done pins m fits occupants = both_stop n p m
  cover_follows (good o) at done pins m fits occupants =
      both_go (at + 27) (cover_obstacle g o m) o refl (occupants_obstacle g small o done pins m (fits o refl) occupants)

  -- one obstacle
  obstacle_follows : (after at : ℕ) (done : List Obstacle) (pins : List Vertex) (m : List ℕ) → Occupants g done pins m
      → Follows (λ o. at + 27) (λ o. Occupants g (o ∷ done) pins) (cover_read g at m (read_obstacle bits g 0 at)) (read_obstacle bits g after at)
  unfolding read_obstacle
  obstacle_follows after at done pins m occupants =
      cover_follows (read_obstacle bits g after at) at done pins m (λ o e. (obstacle_told bits g after at e).1) occupants

  -- n obstacles, after those done
  pub obstacles_follow : (n at : ℕ) (done : List Obstacle) (pins : List Vertex) (m : List ℕ) → Occupants g done pins m
      → Follows (λ xs. at + 27 * n) (λ xs. Occupants g (xs ++ done) pins) (obstacles_from bits g n at m) (read_many 27 (read_obstacle bits g) n at)
  unfolding obstacles_from read_many
  obstacles_follow zero at done pins m occupants = both_go at m [] (omega arith) occupants
  obstacles_follow (suc n) at done pins m occupants =
      follows_then (obstacles_from bits g n) _ (obstacle_follows n at done pins m occupants)
      (λ o m' more. follows_end (λ xs. o ∷ xs) (obstacles_follow n (at + 27) (o ∷ done) pins m' more) (λ xs. omega arith)
      (λ xs m'' end. occupants_alike g (on_middle g xs o done) (λ v. refl) end))
