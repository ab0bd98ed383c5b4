-- The code's reading with occupants comes to what the specification's reading says: the same refusal, or the
-- same end with occupants of all obstacles and pins.
--     groups_refused, groups_good                 obstacles, nets and tail, read with occupants
--     read_rest, rest_of_job                      what they are read beside, as a part of a job's bits
--     any_append                                  a test holds in two lists where it holds in one of them
--     many_length, nets_length, bare_occupants    as many are read as asked for; occupants at first
-- Stated and proved below this file:
--     Following     the relation of the two readings, and its laws
--     Covered       what covering does to the occupants
--     Rest          reading in parts
--     Obstacles     obstacles
--     Nets          pins and nets
mod Following
mod Covered
mod Rest
mod Obstacles
mod Nets
use Prim.Native.Nat.{ℕ, ◌+◌, ◌≤◌}
use mathlib.Core.Path.{◌≡◌, refl}
use mathlib.Core.List.{List, [], append-nil}
use Rattle.job.specs.Grid.{Grid, vertices}
use Rattle.job.specs.Job.{Obstacle, Net}
use Rattle.job.specs.Reading.{Head, refused, good, read_tail, nets_width, obstacles_at, nets_at}
use Rattle.job.specs.Good.{all_pins}
use Rattle.occupants.specs.Occupants.{Bare, answer_of, occupants_of, groups_from, Occupants}
use Following.{Follows, follows_refused, follows_good, follows_then, follows_end, plain_follows}
use Rest.{then_bind}
use Obstacles.{obstacles_follow}
use Nets.{nets_follow}
pub use Rest.{many_length, nets_length, rest_of_job}
unfoldable pub use Rest.{read_rest}
use Covered.{occupants_none}
pub use Covered.{any_append}

-- bare occupants tell of nothing
pub bare_occupants : (g : Grid) {m : List ℕ} → Bare m → Occupants g [] [] m
unfolding Bare
bare_occupants g e = rw e (occupants_none g)

-- obstacles, nets and tail with occupants follow obstacles, nets and tail
groups_follow : (bits : List ℕ) (head : Head) (m : List ℕ) → vertices head.grid ≤ 16384 → Occupants head.grid [] [] m
    → Follows (λ rest. nets_at head + nets_width rest.1) (λ rest. Occupants head.grid rest.0 (all_pins rest.1))
    (groups_from bits head m) (read_rest bits head)
unfolding groups_from read_rest nets_at
groups_follow bits head m small none =
    follows_then _ _ (obstacles_follow bits head.grid small head.obstacles (obstacles_at head) [] [] m none)
    (λ obstacles m' blocked.
    follows_then _ _ (nets_follow bits head.grid small obstacles [] head.nets (nets_at head) m' (rw append-nil at blocked))
    (λ nets m'' end. rw then_bind
    (follows_end (λ done. (obstacles, nets))
    (plain_follows (λ done. nets_at head + nets_width nets) _ (read_tail bits (nets_at head + nets_width nets)) m'' (λ done e. refl)
    (rw append-nil at end))
    (λ done. refl) (λ done m''' occupants. occupants))))

-- what reading refuses the code refuses, by the same number at the same place
pub groups_refused : (bits : List ℕ) (head : Head) (m : List ℕ) (n p : ℕ) → vertices head.grid ≤ 16384 → Occupants head.grid [] [] m
    → read_rest bits head ≡ refused n p → answer_of (groups_from bits head m) ≡ refused n p
groups_refused bits head m n p small none e = follows_refused n p (groups_follow bits head m small none) e

-- what reading reads the code comes to the end of, with occupants of all its obstacles and pins
pub groups_good : (bits : List ℕ) (head : Head) (m : List ℕ) (obstacles : List Obstacle) (nets : List Net) → vertices head.grid ≤ 16384
    → Occupants head.grid [] [] m → read_rest bits head ≡ good (obstacles, nets)
    → (answer_of (groups_from bits head m) ≡ good (nets_at head + nets_width nets))
    × Occupants head.grid obstacles (all_pins nets) (occupants_of (groups_from bits head m))
groups_good bits head m obstacles nets small none e = follows_good (obstacles, nets) (groups_follow bits head m small none) e
