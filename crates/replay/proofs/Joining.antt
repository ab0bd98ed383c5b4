-- The ways out of reading a join.
--     ended_refused, ended_other, ended_same    the cost after moves
--     cost_arrays                               it leaves the arrays as the moves did
--     start_bounds                              a start's vertex and number of moves
--     join_refused, join_started                a join by its start
--     refused_join, started_join                a join as the code answers
use Prim.Native.Nat.{ℕ, ◌+◌, ◌*◌, ◌^◌, ◌≤◌, ◌<◌}
use mathlib.Core.Path.{◌≡◌, refl, sym, ap, ◌∙◌}
use mathlib.Core.List.{List}
use native.Mathlib.Omega.{arith}
use Rattle.bits.specs.Bits.{field}
use Rattle.bits.specs.Puts.{AllBelow}
use Rattle.bits.proofs.Laws.{field_below}
use Rattle.job.specs.Grid.{Grid, vertices, vertex_number}
use Rattle.job.specs.Reading.{Read, refused, good, vertex_at}
use Rattle.job.specs.Refusals.{number_of, read_of}
use Rattle.job.specs.declared.refusal.Refused.{Refused}
use Rattle.job.proofs.Tests.{tests}
use Rattle.job.proofs.Binds.{steps}
use Rattle.job.proofs.Grids.{number_below}
use Rattle.rules.specs.Walks.{walk_cost}
use Rattle.rules.specs.Views.{View}
use Rattle.rules.specs.Prices.{Tech}
use Rattle.counts.proofs.Counting.{fit_under}
use Rattle.walker.specs.Entering.{Arrays, Gone, gone_at}
use Rattle.walker.specs.Structs.{IsWalk}
use Rattle.walker.specs.declared.Walk.{Walk}
use Rattle.replay.specs.Following.{Came, came, stopped, and_on, and_read, arrays_of, moves_from, read_start, read_cost, Joined, cost_from, join_from, with_join_counts}
use Rattle.replay.specs.Structs.{IsMoves, CountedMoves, IsJoin, JoinFits, CountedJoin}
use Rattle.replay.specs.declared.start.Start.{Start}
use Rattle.replay.specs.declared.join.Joined.{Joined as JoinedStruct}
use Rattle.replay.proofs.Parts.{read_refused, read_good}
use Rattle.std.proofs.Common.{Result, Ok, Err}

-- ---- a cost

-- the next bit is the one after the cost
pub cost_next : (bits : List ℕ) (at cost : ℕ) {next : ℕ} → read_cost bits at cost ≡ good next → next ≡ at + 40
unfolding read_cost
cost_next bits at cost = simp (steps, tests) (λ (w, (same, e)). sym e)

module _ (bits : List ℕ) (at : ℕ) where
  -- moves that were refused
  pub ended_refused : {moves : Result Walk Refused} {e : Refused} → moves ≡ Err e → (x : Came Gone) → IsMoves moves x → IsJoin (Err e) (cost_from bits at x)
  unfolding IsMoves IsJoin cost_from and_on
  ended_refused told (stopped m q arrays) is = rw told at is
  ended_refused told (came gone arrays) is = absurd (rw told at is)

  -- a cost that is refused
  pub ended_other : {moves : Result Walk Refused} {w : Walk} {r : Result ℕ Refused} {e : Refused} → moves ≡ Ok w → read_of r ≡ read_cost bits at w.cost
      → r ≡ Err e → (x : Came Gone) → IsMoves moves x → IsJoin (Err e) (cost_from bits at x)
  unfolding IsMoves IsJoin cost_from and_on and_read
  ended_other told read other (stopped m q arrays) is = absurd (rw told at is)
  ended_other {w = w} told read other (came gone arrays) is =
      let walk : IsWalk w gone = rw told at is in
      let e = ap (read_cost bits at) (sym walk.cost) ∙ read_refused read other in
      rw e (refl, refl)

  -- the cost
  pub ended_same : {moves : Result Walk Refused} {w : Walk} {r : Result ℕ Refused} {next : ℕ} → moves ≡ Ok w → read_of r ≡ read_cost bits at w.cost
      → r ≡ Ok next → (x : Came Gone) → IsMoves moves x → IsJoin (Ok (record { walk = w; next = next })) (cost_from bits at x)
  unfolding IsMoves IsJoin cost_from and_on and_read
  ended_same told read same (stopped m q arrays) is = absurd (rw told at is)
  ended_same {w = w} told read same (came gone arrays) is =
      let walk : IsWalk w gone = rw told at is in
      let e = ap (read_cost bits at) (sym walk.cost) ∙ read_good read same in
      rw e (walk, refl)

  -- it leaves the arrays as the moves did
  pub cost_arrays : (x : Came Gone) → arrays_of (cost_from bits at x) ≡ arrays_of x
  unfolding cost_from and_on and_read arrays_of
  cost_arrays (stopped m q arrays) = refl
  cost_arrays (came gone arrays) = by (read_cost bits at (walk_cost gone.made))
    where
      by : (c : Read ℕ) → arrays_of (and_read {B = Joined} arrays c (λ next. came (record { gone = gone; next = next }) arrays)) ≡ arrays
      by (refused n p) = refl
      by (good next) = refl

-- ---- a start

-- a start's vertex is of the grid, and its moves fit their field
pub start_bounds : (bits : List ℕ) (g : Grid) (spots : List ℕ) (at : ℕ) {start : Start} → AllBelow 2 bits → read_start bits g spots at ≡ good start
    → (start.vertex < vertices g) × (start.moves < 2 ^ 20)
unfolding read_start
start_bounds bits g spots at {start} below = simp (steps, tests) (λ (w, ((in-grid, on), (some, same))).
    let vertex : vertex_number g (vertex_at bits at) ≡ start.vertex = λ i. (same i).vertex in
    let moves : field bits (at + 19) 20 ≡ start.moves = λ i. (same i).moves in
    (rw vertex at (number_below g (vertex_at bits at) in-grid), rw moves at (field_below bits (at + 19) 20 below)))

-- a start's vertex is the one that stands there
start_is : (bits : List ℕ) (g : Grid) (spots : List ℕ) (at : ℕ) {start : Start} → read_start bits g spots at ≡ good start
    → start.vertex ≡ vertex_number g (vertex_at bits at)
unfolding read_start
start_is bits g spots at = simp (steps, tests) (λ (w, ((in-grid, on), (some, same))). sym (λ i. (same i).vertex))

-- the counts of moves, after their cost
cost_counted : (bits : List ℕ) (t : Tech) (view : View) (at : ℕ) {start : ℕ} → start ≡ vertex_number t.grid (vertex_at bits at) → (end : ℕ) (x : Came Gone)
    (before after : List ℕ) → CountedMoves t.grid view start x end before after → CountedJoin bits t view at (cost_from bits end x) before after
unfolding CountedMoves CountedJoin cost_from and_on and_read with_join_counts
cost_counted bits t view at here end (stopped n p arrays) before after counts = tt
cost_counted bits t view at here end (came gone arrays) before after counts = by (read_cost bits end (walk_cost gone.made)) refl
  where
    by : (c : Read ℕ) → read_cost bits end (walk_cost gone.made) ≡ c
        → CountedJoin bits t view at (and_read arrays c (λ next. came (record { gone = gone; next = next }) arrays)) before after
    by (refused n p) e = tt
    by (good next) e =
        let past : next ≡ end + 40 = cost_next bits end (walk_cost gone.made) e in
        (rw (← here) counts.0, fit_under _ counts.1 (omega (arith, past)))

module _ (bits : List ℕ) (t : Tech) (view : View) (net at : ℕ) (arrays : Arrays) (before : List ℕ) where
  -- what a join is, with its answer's numbers and its arrays
  abbrev pub Reads : (most : ℕ) → Result JoinedStruct Refused → (spots codes counts : List ℕ) → Type 0
  Reads most answer spots codes counts =
      IsJoin answer (join_from bits t view net at arrays)
      × (JoinFits most answer
      × ((spots ≡ (arrays_of (join_from bits t view net at arrays)).spots)
      × ((codes ≡ (arrays_of (join_from bits t view net at arrays)).codes) × CountedJoin bits t view at (join_from bits t view net at arrays) before counts)))

  module _ {r : Result Start Refused} (is : read_of r ≡ read_start bits t.grid arrays.spots at) where
    -- a join whose start is refused
    pub join_refused : {e : Refused} → r ≡ Err e
        → join_from bits t view net at arrays ≡ stopped (number_of e.refusal) e.place arrays
    unfolding join_from and_read
    join_refused told = rw (read_refused is told) refl

    -- a join whose start is good
    pub join_started : {start : Start} → r ≡ Ok start
        → join_from bits t view net at arrays
        ≡ cost_from bits (at + 39 + 2 * start.moves) (moves_from bits t view net start.moves (at + 39) (gone_at start.vertex) arrays)
    unfolding join_from and_read
    join_started told = rw (read_good is told) refl

    -- a join whose start is refused, as the code answers
    pub refused_join : {e : Refused} (most : ℕ) → r ≡ Err e → Reads most (Err e) arrays.spots arrays.codes before
    unfolding IsJoin JoinFits CountedJoin arrays_of
    refused_join most told = rw (join_refused told) ((refl, refl), (tt, (refl, (refl, tt))))

    -- a join whose start is good, as the code answers
    pub started_join : {start : Start} (moves : Result Walk Refused) (answer : Result JoinedStruct Refused) {spots codes : List ℕ} (counts : List ℕ)
        → r ≡ Ok start → start.moves < 2 ^ 20
        → IsMoves moves (moves_from bits t view net start.moves (at + 39) (gone_at start.vertex) arrays)
        → spots ≡ (arrays_of (moves_from bits t view net start.moves (at + 39) (gone_at start.vertex) arrays)).spots
        → codes ≡ (arrays_of (moves_from bits t view net start.moves (at + 39) (gone_at start.vertex) arrays)).codes
        → CountedMoves t.grid view start.vertex (moves_from bits t view net start.moves (at + 39) (gone_at start.vertex) arrays) (at + 39 + 2 * start.moves)
        before counts
        → ((x : Came Gone) → IsMoves moves x → IsJoin answer (cost_from bits (at + 39 + 2 * start.moves) x)) → JoinFits (at + 39 + 2 * start.moves + 40) answer
        → Reads (at + 2 ^ 22) answer spots codes counts
    unfolding JoinFits
    started_join {start} moves answer counts told few walked put laid tallied ended fits =
        let end = at + 39 + 2 * start.moves in
        let x = moves_from bits t view net start.moves (at + 39) (gone_at start.vertex) arrays in
        let left = sym (cost_arrays bits end x) in
        let here = start_is bits t.grid arrays.spots at (read_good is told) in
        rw (join_started told) (
          ended x walked,
          (
            fits_more answer fits (omega arith),
            (put ∙ ap (λ (a : Arrays). a.spots) left, (laid ∙ ap (λ (a : Arrays). a.codes) left, cost_counted bits t view at here end x before counts tallied)),
          ),
        )
      where
        fits_more : (a : Result JoinedStruct Refused) {low high : ℕ} → JoinFits low a → low ≤ high → JoinFits high a
        fits_more (Err e) h k = tt
        fits_more (Ok j) h k = (h.0, omega (arith, h.1, k))
