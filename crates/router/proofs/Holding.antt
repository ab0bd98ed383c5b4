-- What the code holds of a job that was read.
--     head_holds                         a head and layer lines that were read are a good job's
--     holds-sized                        its grid is small
--     Numbers, holds_numbers             its numbers, within their limits
--     job_held                           what is held is the job's
--     bytes_below                        a slice of bytes holds bytes
--     refused_room                       a job that is refused
--     room_map, room_work, room_both     the three answers about slices
--     Roomy, room_roomy, has_room        slices that are long enough
--     room_short, room_enough            what these say of the job
--     plan_asked                         what reading or routing a plan asks
use Prim.Native.Nat.{ℕ, suc, ◌+◌, ◌*◌, ◌≤◌, ◌<◌}
use mathlib.Core.Path.{◌≡◌, refl, sym, ap, subst, ◌∙◌}
use mathlib.Core.List.{List, [], ◌∷◌, ◌++◌, map, append_assoc}
use native.Mathlib.Nat.{mul-le-mul}
use native.Mathlib.Omega.{arith}
use mir.Syntax.{w8}
use mir.Val.{Fits}
use lib.ListN.{length, get_or, length-append, length-map, get_or-append}
use borrow.Author.Tests.{le-leb, lt-leb}
use Rattle.bits.specs.Puts.{AllBelow}
use Rattle.job.specs.Grid.{vertices}
use Rattle.job.specs.Job.{Layer, Job, largest_min_length}
use Rattle.job.specs.Good.{all_pins}
use Rattle.job.specs.Reading.{Read, refused, good, ◌>>=◌, ◌>>◌, rule, obstacles_at, nets_at, read_job}
use Rattle.job.specs.Structs.{Sized, grid_of, layer_struct, no_line, eight, layers_of}
use Rattle.job.specs.declared.groups.Head.{Head as HeadStruct}
use Rattle.job.specs.declared.groups.Layer.{Layer as LayerStruct}
use Rattle.job.proofs.Binds.{steps}
use Rattle.job.proofs.Tests.{tests}
use Rattle.reader.specs.Structs.{largest_in}
use Rattle.reader.specs.declared.whole.JobRead.{JobRead}
use Rattle.reader.proofs.Lines.{largest_lines}
use Rattle.reader.proofs.Outcome.{ReadGood, least_below}
use Rattle.occupants.specs.Occupants.{Occupants}
use Rattle.rules.specs.Prices.{Tech, tech_of}
use Rattle.rules.specs.Structs.{line_at, line_record, lines_from, tech_by}
use Rattle.rules.proofs.Techs.{good_tech}
use Rattle.walker.specs.Structs.{PlanHeld}
use Rattle.router.specs.Room.{work_need, room_for, read_with_room}
use Rattle.router.specs.Held.{HeadHolds, held_of, JobHeld}
use Rattle.router.specs.declared.held.Held.{Held}

-- ---- layers

-- what the array holds at a layer
array_at : (done : List Layer) (l : Layer) (rest : List Layer) → line_at (layers_of (done ++ (l ∷ rest))) (length done) ≡ layer_struct l
unfolding line_at layers_of eight
array_at done l rest =
    get_or-append (map layer_struct (done ++ (l ∷ rest))) _ no_line (length done)
    (omega (arith, length-map (done ++ (l ∷ rest)) layer_struct, length-append done (l ∷ rest))) ∙ by done
  where
    by : (ds : List Layer) → get_or (map layer_struct (ds ++ (l ∷ rest))) (length ds) no_line ≡ layer_struct l
    by [] = refl
    by (d ∷ ds) = by ds

-- the lines from a layer on are the rest of the job's
lines_from_lem : (done rest : List Layer) → lines_from (layers_of (done ++ rest)) (length done) (length rest) ≡ rest
unfolding lines_from
lines_from_lem done [] = refl
lines_from_lem done (l ∷ rest) =
    let more : length (done ++ (l ∷ [])) ≡ suc (length done) = omega (arith, length-append done (l ∷ [])) in
    let others = subst (λ (n : ℕ). lines_from (layers_of ((done ++ (l ∷ [])) ++ rest)) n (length rest) ≡ rest) more (lines_from_lem (done ++ (l ∷ [])) rest) in
    let tail = subst (λ (ls : List Layer). lines_from (layers_of ls) (suc (length done)) (length rest) ≡ rest) (append_assoc done (l ∷ []) rest) others in
    λ i. line_record (array_at done l rest i) ∷ tail i

-- ---- the job

-- a head and layer lines that were read are a good job's
abbrev pub head_holds : {bytes : List ℕ} {x : JobRead} → ReadGood bytes x → HeadHolds x.head x.layers
head_holds read = record { job = read.job; rules = read.rules; heads = read.head; lines = read.layers }

-- v vertices, and a largest M of l: within their limits, and so is the work need
pub record Numbers (v l : ℕ) : Type 0 where
  pub vertices : v ≤ 16384
  pub largest : l ≤ 15
  pub work : v * 4 * (l + 1) ≤ 1048576

module _ (head : HeadStruct) (layers : List LayerStruct) (holds : HeadHolds head layers) where
  -- the code's grid is the job's
  grid : grid_of head.grid ≡ holds.job.grid
  grid = ap (λ (h : HeadStruct). grid_of h.grid) holds.heads

  -- the grid is small
  pub holds-sized : Sized head.grid
  holds-sized =
      let rules = rw (← grid) at holds.rules.grid in
      record {
        small = record { direction = omega (arith, rules.direction); layers = rules.layers; columns = rules.columns; rows = rules.rows };
        vertices = rules.vertices;
      }

  -- the largest M is the job's
  largest_is : largest_in layers ≡ largest_min_length holds.job.lines
  largest_is = ap largest_in holds.lines ∙ largest_lines holds.job.lines

  -- the numbers are within their limits
  pub holds_numbers : {v l : ℕ} → v ≡ vertices (grid_of head.grid) → l ≡ largest_in layers → Numbers v l
  holds_numbers {v} {l} ev el =
      let few : v ≤ 16384 = omega (arith, ev, holds-sized.vertices) in
      let low : l ≤ 15 = omega (arith, el, largest_is, least_below holds.job.lines holds.rules.good_lines) in
      let four : v * 4 ≤ 65536 = omega arith in
      let more : l + 1 ≤ 16 = omega arith in
      record { vertices = few; largest = low; work = mul-le-mul four more }

  -- there are at most 65,535 obstacles
  pub holds_obstacles : head.obstacles < 65536
  holds_obstacles = rw holds.heads holds.rules.obstacles

  -- the code's layers are the job's
  tech_is : tech_by (held_of head layers).tech ≡ tech_of holds.job
  unfolding tech_by held_of tech_of
  tech_is =
      rw (holds.heads, holds.lines) (λ i. record {
        grid = holds.job.grid;
        lines = lines i;
        guide = holds.job.guide;
        short = holds.job.short;
      })
    where
      lines : lines_from (layers_of holds.job.lines) 0 holds.job.grid.layers ≡ holds.job.lines
      lines = ap (lines_from (layers_of holds.job.lines) 0) (sym holds.rules.lines) ∙ lines_from_lem [] holds.job.lines

  -- what is held is the job's
  held_is : (bytes : List ℕ) (occupants : List ℕ) → read_job bytes ≡ good holds.job
      → Occupants holds.job.grid holds.job.obstacles (all_pins holds.job.nets) occupants → JobHeld bytes occupants (held_of head layers)
  unfolding held_of work_need nets_at obstacles_at tech_of
  held_is bytes occupants read occupied =
      record {
        job = holds.job;
        read = read;
        occupied = occupied;
        layers = tech_is;
        fits = record {
          sized = holds-sized;
          good = rw tech_is (good_tech holds.rules);
          largest = largest_is ∙ sym (ap (λ (t : Tech). largest_min_length t.lines) tech_is);
        };
        vertices = ap vertices grid;
        work = rw (grid, largest_is) refl;
        nets = ap (λ (h : HeadStruct). h.nets) (sym holds.heads);
        from = rw holds.heads refl;
      }

-- and so for a job that was read
pub job_held : {bytes : List ℕ} {occupants : List ℕ} {x : JobRead} {held : Held} (read : ReadGood bytes x)
    → ((j : Job) → read_job bytes ≡ good j → Occupants j.grid j.obstacles (all_pins j.nets) occupants)
    → held ≡ held_of x.head x.layers → JobHeld bytes occupants held
job_held {bytes} {occupants} {x} read occupied is =
    rw is (held_is x.head x.layers (head_holds read) bytes occupants read.read (occupied read.job read.read))

-- ---- slices

-- numbers that fit a byte are below 256
pub bytes_below : (xs : List ℕ) → ((i : ℕ) → Fits w8 (get_or xs i 0)) → AllBelow 256 xs
unfolding AllBelow
bytes_below [] h = tt
bytes_below (x ∷ xs) h = (omega (arith, h 0), bytes_below xs (λ i. h (suc i)))

-- a job that is refused
pub refused_room : (bytes map work : List ℕ) {n p : ℕ} → read_job bytes ≡ refused n p → read_with_room bytes map work ≡ refused n p
unfolding read_with_room ◌>>=◌
refused_room bytes map work e = rw e refl

module _ (v n : ℕ) (map work : List ℕ) where
  -- the map is short
  pub room_map : length map < v → refused 12 v ≡ room_for v n map work
  unfolding room_for rule ◌>>◌
  room_map h = rw (lt-leb v (length map) h) refl

  -- the work is short
  pub room_work : v ≤ length map → length work < n → refused 13 n ≡ room_for v n map work
  unfolding room_for rule ◌>>◌
  room_work h k = rw (le-leb v (length map) h, lt-leb n (length work) k) refl

  -- neither is
  pub room_both : v ≤ length map → n ≤ length work → good tt ≡ room_for v n map work
  unfolding room_for rule ◌>>◌
  room_both h k = rw (le-leb v (length map) h, le-leb n (length work) k) refl

-- the slices are long enough for a job
pub record Roomy (bytes : List ℕ) (j : Job) (map work : List ℕ) : Type 0 where
  pub read : read_with_room bytes map work ≡ good j
  pub vertices : vertices j.grid ≤ length map
  pub need : work_need j ≤ length work

-- a job that has room has slices that are long enough
pub room_roomy : (bytes map work : List ℕ) (j : Job) → read_with_room bytes map work ≡ good j → Roomy bytes j map work
unfolding read_with_room room_for
room_roomy bytes map work j e =
    let (k, read, ((long, longer), is)) = simp (steps, tests) at e in
    record { read = e; vertices = rw is at long; need = rw is at longer }

-- a job whose slices are long enough has room
pub has_room : (bytes map work : List ℕ) {j : Job} → read_job bytes ≡ good j → vertices j.grid ≤ length map → work_need j ≤ length work
    → read_with_room bytes map work ≡ good j
unfolding read_with_room room_for
has_room bytes map work read long longer = simp (steps, tests) (_, read, ((long, longer), refl))

module _ {bytes : List ℕ} {occupants : List ℕ} {held : Held} (h : JobHeld bytes occupants held) (map work : List ℕ) {x : Read Unit}
    (answer : x ≡ room_for held.vertices held.work map work) where
  -- the answer is the job's
  answer_is : x ≡ room_for (vertices h.job.grid) (work_need h.job) map work
  answer_is = answer ∙ (λ i. room_for (h.vertices i) (h.work i) map work)

  -- one is short
  pub room_short : {n p : ℕ} → x ≡ refused n p → read_with_room bytes map work ≡ refused n p
  unfolding read_with_room ◌>>=◌ ◌>>◌
  room_short e = rw (h.read, sym answer_is ∙ e) refl

  -- both are long enough
  pub room_enough : x ≡ good tt → Roomy bytes h.job map work
  unfolding read_with_room ◌>>=◌ ◌>>◌ room_for
  room_enough e =
      let both = sym answer_is ∙ e in
      let (long, longer) = simp (steps, tests) at both in
      record { read = rw (h.read, both) refl; vertices = long; need = longer }

-- what reading a plan asks, and routing
pub plan_asked : {bytes : List ℕ} {occupants : List ℕ} {held : Held} (h : JobHeld bytes occupants held) {map : List ℕ} → vertices h.job.grid ≤ length map
    → PlanHeld bytes held.tech occupants map held.nets held.from
plan_asked h room =
    record {
      job = h.job;
      read = h.read;
      layers = h.layers;
      fits = h.fits;
      nets = h.nets;
      from = h.from;
      occupied = h.occupied;
      room = room;
    }
