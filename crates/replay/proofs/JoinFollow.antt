-- Reading a join with arrays comes to what reading it by the definition comes to.
--     JoinMeet       what the two readings have in common
--     join_start     the vertex that a join starts at
--     join_walks     where its moves lead
--     join_follow    the law
use Prim.Native.Nat.{ℕ, suc, ◌+◌, ◌*◌, ◌≤◌, ◌<◌}
use mathlib.Core.Path.{◌≡◌, refl, sym, ◌∙◌}
use mathlib.Core.List.{List, ◌++◌, append-nil}
use mathlib.Core.Bool.{Bool, true, false, ◌&&◌}
use lib.ListN.{length, get_or}
use lib.Dec.{T, leb, eqb}
use Rattle.bits.specs.Bits.{field}
use Rattle.bits.specs.Puts.{AllBelow}
use Rattle.job.specs.Grid.{Grid, vertices, vertex_number, inside}
use Rattle.job.specs.Job.{Job}
use Rattle.job.specs.Good.{GoodJob}
use Rattle.job.specs.Reading.{Read, good, ◌>>=◌, ◌>>◌, rule, vertex_at}
use Rattle.job.proofs.Tests.{tests}
use Rattle.job.proofs.Binds.{steps}
use Rattle.job.proofs.Grids.{number_below}
use Rattle.rules.specs.Views.{member, view_of}
use Rattle.rules.specs.Prices.{tech_of}
use Rattle.rules.specs.Places.{GoodSegment, GoodPlace}
use Rattle.rules.specs.Walks.{start_at, walked, walk, walk_cost, vertices_of}
use Rattle.rules.specs.Standings.{Standing, joined_by}
use Rattle.rules.specs.Apart.{Stands}
use Rattle.rules.proofs.Techs.{good_tech}
use Rattle.rules.proofs.Walks.{route_walk}
use Rattle.plan.specs.Reading.{group, Moved, JoinRead, read_moves, read_join}
use Rattle.plan.proofs.Moves.{moves_good}
use Rattle.tree.specs.Spots.{Spots}
use Rattle.tree.proofs.Spots.{spot_tree}
use Rattle.walker.specs.Entering.{Arrays, gone_at}
use Rattle.walker.specs.Standing.{Stood}
use Rattle.walker.proofs.Standing.{stood_begun, stood_joined, end_entered}
use Rattle.replay.specs.Following.{moves_from, read_start, read_cost, Joined, cost_from, join_from}
use Rattle.replay.specs.declared.start.Start.{Start}
use Rattle.replay.proofs.Follow.{Follow, both_good, then_assoc, follow_on, follow_read}
use Rattle.replay.proofs.MovesFollow.{moves_follow}

-- both have the same join, and the arrays stand for what it leaves
abbrev pub JoinMeet : Grid → (k : ℕ) → Standing → JoinRead → Joined → Arrays → Type 0
JoinMeet g k s read joined arrays =
    (joined ≡ record { gone = record { place = read.moved.last; made = read.moved.made }; next = read.next })
    × Stood g (joined_by k s read.moved.last.vertex read.moved.made) arrays

-- the start is on the tree by its byte as by the list
start_same : (g : Grid) (tree unjoined spots bits : List ℕ) (at : ℕ) → Spots g tree unjoined spots
    → (inside g (vertex_at bits at) && eqb (get_or spots (vertex_number g (vertex_at bits at)) 0) 1)
    ≡ (inside g (vertex_at bits at) && member (vertex_number g (vertex_at bits at)) tree)
start_same g tree unjoined spots bits at held = by (inside g (vertex_at bits at)) refl
  where
    by : (b : Bool) → inside g (vertex_at bits at) ≡ b
        → (b && eqb (get_or spots (vertex_number g (vertex_at bits at)) 0) 1) ≡ (b && member (vertex_number g (vertex_at bits at)) tree)
    by true e = spot_tree g tree unjoined spots _ (number_below g (vertex_at bits at) (rw e tt)) held
    by false e = refl

-- the moves of a join that was read lead where it says
pub join_walks : (B : List ℕ) → AllBelow 2 B → (j : Job) (k : ℕ) (s : Standing) (at : ℕ) (read : JoinRead) → read_join B j k s at ≡ good read
    → walk (tech_of j) (view_of j k s.metal) (start_at read.start) read.moved.moves ≡ walked read.moved.last read.moved.made
unfolding read_join
join_walks B bits j k s at read = simp (steps, tests) (λ (w, (on, (some, (moved, reads, (w40, (costs, same)))))).
    rw (← same) (moves_good B bits (tech_of j) (view_of j k s.metal) s.unjoined _ (at + 39) _ moved reads).walks)

-- a join starts at the vertex that stands there
pub join_start : (B : List ℕ) (j : Job) (k : ℕ) (s : Standing) (at : ℕ) (read : JoinRead) → read_join B j k s at ≡ good read
    → read.start ≡ vertex_number j.grid (vertex_at B at)
unfolding read_join
join_start B j k s at read = simp (steps, tests) (λ (w, (on, (some, (moved, reads, (w40, (costs, same)))))). sym (λ i. (same i).start))

module _ (B : List ℕ) (bits : AllBelow 2 B) {j : Job} (good-j : GoodJob j) (k : ℕ) (s : Standing) (apart : Stands (tech_of j) s) where
  -- the end of the moves is among the vertices that they enter
  moves_end : (start n at : ℕ) (moved : Moved) → member start s.tree ≡ true → 1 ≤ n
      → read_moves B (tech_of j) (view_of j k s.metal) s.unjoined n at (start_at start) ≡ good moved
      → member moved.last.vertex (s.tree ++ vertices_of moved.made) ≡ true
  moves_end start n at moved on some reads =
      let m = moves_good B bits (tech_of j) (view_of j k s.metal) s.unjoined n at (start_at start) moved reads in
      let w = route_walk (good_tech good-j) (view_of j k s.metal) {tree = s.tree} (apart.on_grid start on) (record { on_tree = on; walks = m.route some }) in
      let is : walked w.last w.made ≡ walked moved.last moved.made = sym w.does ∙ m.walks in
      let place : w.last ≡ moved.last = cc in
      let all : w.made ≡ moved.made = cc in
      rw (place, all) at (end_entered w.last.vertex s.tree w.way w.enters)

  -- a join's start is a good place
  start_good : (v : ℕ) → v < vertices j.grid → GoodPlace (tech_of j) (start_at v)
  unfolding start_at GoodSegment tech_of
  start_good v h = record { vertex = h; segment = tt }

  -- what is read after a start
  after_start : (at : ℕ) → Start → Read JoinRead
  after_start at start = do
    moved ← read_moves B (tech_of j) (view_of j k s.metal) s.unjoined start.moves (at + 39) (start_at start.vertex)
    next ← read_cost B (at + 39 + 2 * start.moves) (walk_cost moved.made)
    good (record { start = start.vertex; moved = moved; next = next })

  -- the cost after moves, as it is read and by its own function
  cost_form : (start at : ℕ) (moved : Moved)
      → ◌≡◌ {A = Read JoinRead}
      (◌>>◌ (group B at 40) (◌>>◌ (rule 18 at (eqb (field B at 40) (walk_cost moved.made))) (good (record { start = start; moved = moved; next = at + 40 }))))
      (◌>>=◌ (read_cost B at (walk_cost moved.made)) (λ next. good (record { start = start; moved = moved; next = next })))
  unfolding read_cost ◌>>=◌
  cost_form start at moved = rw (then_assoc, then_assoc) refl

  -- reading a join is reading its start, and what follows
  join_form : (spots : List ℕ) (at : ℕ) → Spots j.grid s.tree s.unjoined spots
      → read_join B j k s at ≡ ◌>>=◌ (read_start B j.grid spots at) (after_start at)
  unfolding read_join read_start after_start ◌>>=◌
  join_form spots at held =
      let g = j.grid in
      let start = vertex_number g (vertex_at B at) in
      let count = field B (at + 19) 20 in
      rw (start_same g s.tree s.unjoined spots B at held, then_assoc, then_assoc, then_assoc)
      (λ i. ◌>>◌ (group B at 39) (◌>>◌ (rule 16 at (inside g (vertex_at B at) && member start s.tree)) (◌>>◌ (rule 17 (at + 19) (leb 1 count))
      (◌>>=◌ (read_moves B (tech_of j) (view_of j k s.metal) s.unjoined count (at + 39) (start_at start))
      (λ moved. cost_form start (at + 39 + 2 * count) moved i)))))

  -- a start that is read is on the tree, and a move follows
  start_known : (spots : List ℕ) (at : ℕ) (start : Start) → Spots j.grid s.tree s.unjoined spots → read_start B j.grid spots at ≡ good start
      → (member start.vertex s.tree ≡ true) × (1 ≤ start.moves)
  unfolding read_start
  start_known spots at start held = rw (start_same j.grid s.tree s.unjoined spots B at held)
      (simp (steps, tests) (λ (w, ((in-grid, on), (some, same))).
      rw (← same) (holds _ on, some)))
    where
      holds : (b : Bool) → T b → b ≡ true
      holds true h = refl
      holds false h = absurd h

  -- the moves and the cost, after a start that was read
  start_follow : (at : ℕ) (start : Start) (arrays : Arrays) → k < length s.metal → member start.vertex s.tree ≡ true → 1 ≤ start.moves
      → Stood j.grid s arrays
      → Follow (JoinMeet j.grid k s) (after_start at start)
      (cost_from B (at + 39 + 2 * start.moves)
      (moves_from B (tech_of j) (view_of j k s.metal) (suc k) start.moves (at + 39) (gone_at start.vertex) arrays))
  unfolding after_start gone_at tech_of cost_from
  start_follow at start arrays known on some stood =
      follow_on (JoinMeet j.grid k s) _ _
      (moves_follow B (view_of j k s.metal) (good_tech good-j) k s start.moves known (at + 39) (gone_at start.vertex) arrays
      (start_good start.vertex (apart.on_grid start.vertex on)) (λ h v e. apart.no_goal v (rw append-nil at e)) (stood_begun j.grid k s arrays stood))
      (λ moved gone after reads (is, st).
      rw is (follow_read (JoinMeet j.grid k s) (read_cost B (at + 39 + 2 * start.moves) (walk_cost moved.made)) after _ _ (λ next e.
      both_good refl refl (
        refl,
        stood_joined j.grid k s moved.made moved.last.vertex after (moves_end start.vertex start.moves (at + 39) moved on some reads)
            st,
      ))))

  -- the law
  pub join_follow : (at : ℕ) (arrays : Arrays) → k < length s.metal → Stood j.grid s arrays
      → Follow (JoinMeet j.grid k s) (read_join B j k s at) (join_from B (tech_of j) (view_of j k s.metal) (suc k) at arrays)
  unfolding join_from tech_of
  join_follow at arrays known stood =
      rw (join_form arrays.spots at stood.spots)
      (follow_read (JoinMeet j.grid k s) (read_start B j.grid arrays.spots at) arrays _ _ (λ start e.
      let (on, some) = start_known arrays.spots at start stood.spots e in
      start_follow at start arrays known on some stood))
