-- What is loaded of a net is the net of the job that was read.
--     pins_loaded_lem, boxes_loaded_lem     the numbers of pins and of boxes whose bits stand there
--     all_below_lem, all_one, width_more    numbers below a higher bound; one of many; one net more
--     NetTold                               a net, loaded
--     net_loaded_lem, net_told              a good net whose bits stand at a bit; each net of a job that was
--                                           read
--     first_net                             the first net begins where the obstacles end
use Prim.Native.Nat.{ℕ, suc, ◌+◌, ◌*◌, ◌≤◌, ◌<◌}
use native.Mathlib.Nat.{add-zero}
use native.Mathlib.Omega.{arith}
use mathlib.Core.Path.{◌≡◌, refl}
use mathlib.Core.List.{List, [], ◌∷◌, ◌++◌, map, flat_map}
use lib.ListN.{length, take}
use lib.Dec.{T}
use Rattle.bits.specs.Bits.{bits_of}
use Rattle.bits.specs.Puts.{AllBelow}
use Rattle.bits.proofs.Laws.{bits_of_bits}
use Rattle.job.specs.Lists.{All}
use Rattle.job.specs.Grid.{Grid, Vertex, vertex_number}
use Rattle.job.specs.Job.{Obstacle, Box, Net, Job}
use Rattle.job.specs.Reading.{good, good_box, nets_at, net_width, nets_width, read_job}
use Rattle.job.specs.Heads.{job_head}
use Rattle.job.specs.Packing.{vertex_bits, box_bits, net_bits}
use Rattle.job.specs.Good.{GoodGrid, GoodPin, GoodNet}
use Rattle.reader.specs.Loading.{pin_numbers, box_numbers, boxes_numbers, net_loaded, NetRoom}
use Rattle.job.proofs.TwoWay.{rules_hold, net_at, net_at_lem}
use Rattle.job.proofs.TwoWay.Places.{Placed, placed, placed-append, placed-whole}
use Rattle.job.proofs.TwoWay.Widths.{vertex_bits_lem, box_bits_lem, net_bits_lem}
use Rattle.job.proofs.TwoWay.Groups.{inside_fits, box_fits, vertex_placed, box_placed}
use Rattle.job.proofs.TwoWay.Nets.{net_placed, net_head}

module _ (B : List ℕ) (bits : AllBelow 2 B) (g : Grid) (small : GoodGrid g) where
  -- pins whose bits stand there are loaded as their vertex numbers
  pins_loaded_lem : (obstacles : List Obstacle) (at : ℕ) (vs : List Vertex) → Placed B at (flat_map vertex_bits vs) → All (GoodPin g obstacles) vs
      → pin_numbers B g (length vs) at ≡ map (vertex_number g) vs
  unfolding flat_map All pin_numbers
  pins_loaded_lem obstacles at [] p h = refl
  pins_loaded_lem obstacles at (v ∷ vs) p h =
      let (first, rest) = (placed-append B at (vertex_bits v) (flat_map vertex_bits vs)).0 p in
      let here = ((vertex_placed B bits at v).0 (first, inside_fits g small v h.0.inside)).1 in
      rw (here, pins_loaded_lem obstacles (at + 19) vs (rw vertex_bits_lem at rest) h.1)

  -- boxes whose bits stand there are loaded as their numbers, one box after the other
  boxes_loaded_lem : (at : ℕ) (bs : List Box) → Placed B at (flat_map box_bits bs) → All (λ b. T (good_box g b)) bs
      → boxes_numbers B (length bs) at ≡ flat_map box_numbers bs
  unfolding flat_map All boxes_numbers
  boxes_loaded_lem at [] p h = refl
  boxes_loaded_lem at (b ∷ bs) p h =
      let (first, rest) = (placed-append B at (box_bits b) (flat_map box_bits bs)).0 p in
      let here = ((box_placed B bits at b).0 (first, box_fits g small b h.0)).1 in
      rw (here, boxes_loaded_lem (at + 38) bs (rw box_bits_lem at rest) h.1)

-- numbers below a bound are below a higher one
pub all_below_lem : {m n : ℕ} → m ≤ n → (vs : List ℕ) → All (λ v. v < m) vs → All (λ v. v < n) vs
unfolding All
all_below_lem h [] below = tt
all_below_lem h (v ∷ vs) below = (omega (arith, h, below.0), all_below_lem h vs below.1)

-- what holds of each holds of one of them
pub all_one : {A : Type 0} (Claim : A → Type 0) (before : List A) (x : A) (after : List A) → All Claim (before ++ (x ∷ after)) → Claim x
unfolding All
all_one Claim [] x after h = h.0
all_one Claim (y ∷ before) x after h = all_one Claim before x after h.1

-- one net more takes as many bits more
width_more : (before : List Net) (net : Net) (after : List Net)
    → nets_width (take (suc (length before)) (before ++ (net ∷ after))) ≡ nets_width (take (length before) (before ++ (net ∷ after))) + net_width net
unfolding nets_width
width_more [] net after = omega arith
width_more (x ∷ before) net after = omega (arith, width_more before net after)

-- the net at a bit, loaded: its pins as vertex numbers, its boxes as numbers, its counts, the next net's bit
pub record NetTold (b : List ℕ) (j : Job) (net : Net) (at end : ℕ) : Type 0 where
  pub room : NetRoom (bits_of b) at
  pub pins : (net_loaded (bits_of b) at).pins ≡ length net.pins
  pub boxes : (net_loaded (bits_of b) at).boxes ≡ length net.boxes
  pub next : (net_loaded (bits_of b) at).next ≡ end
  pub numbers : pin_numbers (bits_of b) j.grid (net_loaded (bits_of b) at).pins (at + 8) ≡ map (vertex_number j.grid) net.pins
  pub spans : boxes_numbers (bits_of b) (net_loaded (bits_of b) at).boxes (at + 8 + 19 * (net_loaded (bits_of b) at).pins) ≡ flat_map box_numbers net.boxes

-- a good net whose bits stand at a bit is loaded from there
net_loaded_lem : (b : List ℕ) (j : Job) (net : Net) (at : ℕ) → GoodGrid j.grid → GoodNet j.grid j.obstacles net
    → Placed (bits_of b) at (net_bits net) → NetTold b j net at (at + net_width net)
unfolding NetRoom net_loaded net_width
net_loaded_lem b j net at small good-net p =
    let B = bits_of b in
    let bits = bits_of_bits b in
    let parts = (net_placed B bits j.grid small j.obstacles at net).0 p in
    let head = ((net_head B bits j.grid small j.obstacles at net).0 (parts.0, (omega arith, (good-net.boxes, tt)))).1 in
    let pins : (net_loaded B at).pins ≡ length net.pins = omega arith in
    let boxes : (net_loaded B at).boxes ≡ length net.boxes = head.1.0 in
    let next : (net_loaded B at).next ≡ at + net_width net = omega arith in
    record {
      room = omega (arith, placed-whole B at (net_bits net) (omega (arith, net_bits_lem net)) p, net_bits_lem net);
      pins = pins;
      boxes = boxes;
      next = next;
      numbers = rw pins (pins_loaded_lem B bits j.grid small j.obstacles (at + 8) net.pins parts.1.0 good-net.good_pins);
      spans = rw (pins, boxes) (boxes_loaded_lem B bits j.grid small (at + 8 + 19 * length net.pins) net.boxes parts.1.1 good-net.good_boxes);
    }

-- each net of a job that was read is loaded from its bit, and the next net begins behind it
pub net_told : (b : List ℕ) (j : Job) → read_job b ≡ good j → (before : List Net) (net : Net) (after : List Net)
    → j.nets ≡ before ++ (net ∷ after) → NetTold b j net (net_at j (length before)) (net_at j (suc (length before)))
unfolding net_at
net_told b j e before net after same =
    let rules = rules_hold b j e in
    let good-net = all_one (GoodNet j.grid j.obstacles) before net after (rw same at rules.good_nets) in
    let here = net_at_lem b j e before net after same in
    let told = net_loaded_lem b j net (net_at j (length before)) rules.grid good-net (placed _ _ _ here.0 here.1) in
    let next : net_at j (suc (length before)) ≡ net_at j (length before) + net_width net = rw same (omega (arith, width_more before net after)) in
    rw next told

-- the first net begins where the obstacles end
pub first_net : (j : Job) → net_at j 0 ≡ nets_at (job_head j)
unfolding net_at nets_width
first_net j = rw add-zero
