-- The nets of a job that was read, as the code loads them.
--     JobFits, job_fits     what loading a net asks of the bytes and of the grid
--     NetHeld, net_held     a net, loaded: its pins are the first of the array, and vertices of the grid
use Prim.Native.Nat.{ℕ, suc, ◌≤◌, ◌<◌}
use mathlib.Core.Path.{◌≡◌, refl, sym, ◌∙◌, subst₂}
use mathlib.Core.List.{List, [], ◌∷◌, ◌++◌, map}
use mathlib.Core.Bool.{Bool, true, false}
use native.Mathlib.Omega.{arith}
use lib.ListN.{length, take, length-map}
use lib.Seq.{sets, sets-eq, length-sets, take-append_seam}
use lib.Dec.{leb}
use borrow.Author.Tests.{leb-true}
use Rattle.bits.specs.Bits.{bits_of}
use Rattle.job.specs.Lists.{All}
use Rattle.job.specs.Grid.{Grid, Vertex, vertices, vertex_number}
use Rattle.job.specs.Job.{Obstacle, Net, Job}
use Rattle.job.specs.Reading.{good, rule, ◌>>◌, read_job}
use Rattle.job.specs.Good.{GoodPin, GoodNet}
use Rattle.job.specs.Structs.{Sized, grid_of}
use Rattle.job.specs.declared.grid.Grid.{Grid as GridStruct}
use Rattle.job.proofs.Grids.{number_below}
use Rattle.job.proofs.TwoWay.{rules_hold, net_at}
use Rattle.reader.specs.Loading.{net_loaded, NetRoom, pins_loaded}
use Rattle.reader.proofs.Loaded.{all_one, net_told}
use Rattle.rules.specs.Views.{pins_of}

-- ---- the job

-- the bytes are few enough, and so are the grid's vertices
pub record JobFits (bytes : List ℕ) (g : GridStruct) : Type 0 where
  pub short : length bytes ≤ 262144
  pub sized : Sized g

-- a job of too many bytes is not read
read_bytes : (bytes : List ℕ) (j : Job) → read_job bytes ≡ good j → length bytes ≤ 262144
unfolding read_job rule ◌>>◌
read_bytes bytes j e = by (leb (length bytes) 262144) refl
  where
    by : (b : Bool) → leb (length bytes) 262144 ≡ b → length bytes ≤ 262144
    by true h = leb-true _ _ h
    by false h = absurd (let q = rw h at e in let z : ◌≡◌ {A = ℕ} 0 1 = cc in omega arith)

-- a job that was read fits
pub job_fits : (bytes : List ℕ) (g : GridStruct) (j : Job) → read_job bytes ≡ good j → j.grid ≡ grid_of g → JobFits bytes g
job_fits bytes g j e is =
    let rules = rw is at (rules_hold bytes j e).grid in
    record {
      short = read_bytes bytes j e;
      sized = record {
        small = record { direction = omega (arith, rules.direction); layers = rules.layers; columns = rules.columns; rows = rules.rows };
        vertices = rules.vertices;
      };
    }

-- ---- a net

-- the numbers of good pins are vertices of the grid
pins_below : (g : Grid) (obstacles : List Obstacle) (ps : List Vertex) → All (GoodPin g obstacles) ps → All (λ v. v < vertices g) (map (vertex_number g) ps)
unfolding All
pins_below g obstacles [] h = tt
pins_below g obstacles (p ∷ ps) h = (number_below g p h.0.inside, pins_below g obstacles ps h.1)

-- numbers that are stored at the front of an array are the first of it
stored_front : (array xs : List ℕ) → length xs ≤ length array → take (length xs) (sets array 0 xs) ≡ xs
stored_front array xs h = rw (sets-eq xs array 0 (omega arith)) (take-append_seam xs _)

-- the net whose bits stand at a bit, loaded into an array of sixteen pins
pub record NetHeld (bytes : List ℕ) (g : Grid) (net : Net) (at end : ℕ) (pins : List ℕ) : Type 0 where
  pub room : NetRoom (bits_of bytes) at
  pub next : (net_loaded (bits_of bytes) at).next ≡ end
  pub few : (net_loaded (bits_of bytes) at).pins ≤ 16
  pub sixteen : length (pins_loaded (bits_of bytes) g at pins) ≡ 16
  pub list : take (net_loaded (bits_of bytes) at).pins (pins_loaded (bits_of bytes) g at pins) ≡ pins_of g net
  pub below : All (λ v. v < vertices g) (pins_of g net)

-- each net of a job that was read
net_loaded_lem : (bytes : List ℕ) (j : Job) (before : List Net) (net : Net) (after : List Net) (pins : List ℕ) → read_job bytes ≡ good j
    → j.nets ≡ before ++ (net ∷ after) → length pins ≡ 16
    → NetHeld bytes j.grid net (net_at j (length before)) (net_at j (suc (length before))) pins
unfolding pins_loaded pins_of
net_loaded_lem bytes j before net after pins e split long =
    let rules = rules_hold bytes j e in
    let good-net = all_one (GoodNet j.grid j.obstacles) before net after (rw split at rules.good_nets) in
    let told = net_told bytes j e before net after split in
    let many : length (map (vertex_number j.grid) net.pins) ≡ length net.pins = length-map net.pins (vertex_number j.grid) in
    record {
      room = told.room;
      next = told.next;
      few = omega (arith, told.pins, good-net.pins);
      sixteen = simp length-sets long;
      list = rw (told.numbers, told.pins ∙ sym many) (stored_front pins (map (vertex_number j.grid) net.pins) (omega (arith, many, long, good-net.pins)));
      below = pins_below j.grid j.obstacles net.pins good-net.good_pins;
    }

-- with the grid and the bit that the code holds
pub net_held : {bytes : List ℕ} {g : Grid} {at : ℕ} {pins : List ℕ} (j : Job) (before : List Net) (net : Net) (after : List Net) → read_job bytes ≡ good j
    → j.nets ≡ before ++ (net ∷ after) → length pins ≡ 16 → j.grid ≡ g → net_at j (length before) ≡ at
    → NetHeld bytes g net at (net_at j (suc (length before))) pins
net_held {bytes} {pins = pins} j before net after e split long grid position =
    subst₂ (λ (h : Grid) (b : ℕ). NetHeld bytes h net b (net_at j (suc (length before))) pins) grid position (net_loaded_lem bytes j before net after pins e split long)
