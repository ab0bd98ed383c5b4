-- How many bits each part of a job takes, and how many bytes a good job takes at most.
--     layer_bits_lem, vertex_bits_lem, obstacle_bits_lem, box_bits_lem     40, 19, 27 and 38
--     concat_bits                                          groups of one width, one after the other
--     net_head_bits, net_bits_lem, nets_bits                   the head of a net, a net, some nets
--     head_bits_lem                                            the head
--     job_width                                            the whole job
--     job_small                                            a good job is at most 262,144 bytes
use Prim.Native.Nat.{ℕ, ◌+◌, ◌-◌, ◌*◌, ◌≤◌}
use native.Mathlib.Omega.{arith}
use mathlib.Core.Path.{◌≡◌, refl}
use mathlib.Core.List.{List, [], ◌∷◌, flat_map}
use lib.ListN.{length, length-append}
use Rattle.job.specs.Lists.{All}
use Rattle.job.specs.Grid.{Grid, Vertex}
use Rattle.job.specs.Job.{Layer, Obstacle, Box, Net, Job}
use Rattle.job.specs.Reading.{net_width, nets_width}
use Rattle.job.specs.Packing.{head_bits, layer_bits, vertex_bits, obstacle_bits, box_bits, net_bits, job_bits, pack_job}
use Rattle.bits.specs.Bits.{group_bits}
use Rattle.job.specs.Good.{GoodNet, GoodJob}
use Rattle.bits.proofs.Laws.{length-field_bits, length-pack_bits}
use Rattle.job.proofs.TwoWay.Places.{widths, length-group_bits}

-- a layer line takes 40 bits
pub layer_bits_lem : (l : Layer) → length (layer_bits l) ≡ 40
unfolding layer_bits widths
layer_bits_lem l = length-group_bits _

-- a vertex takes 19 bits
pub vertex_bits_lem : (v : Vertex) → length (vertex_bits v) ≡ 19
unfolding vertex_bits widths
vertex_bits_lem v = length-group_bits _

-- an obstacle takes 27 bits
pub obstacle_bits_lem : (o : Obstacle) → length (obstacle_bits o) ≡ 27
unfolding obstacle_bits
obstacle_bits_lem o = simp (length-append, vertex_bits_lem, length-field_bits)

-- a box takes 38 bits
pub box_bits_lem : (b : Box) → length (box_bits b) ≡ 38
unfolding box_bits widths
box_bits_lem b = length-group_bits _

-- groups of one width take that many bits each
pub concat_bits : {A : Type 0} (bits : A → List ℕ) (w : ℕ) → ((x : A) → length (bits x) ≡ w) → (xs : List A)
    → length (flat_map bits xs) ≡ w * length xs
unfolding flat_map
concat_bits bits w wide [] = omega arith
concat_bits bits w wide (x ∷ xs) = simp (length-append, wide, concat_bits bits w wide xs) (omega arith)

-- the head of a net takes 8 bits
pub net_head_bits : (net : Net) → length (group_bits ((4, length net.pins - 1) ∷ (4, length net.boxes) ∷ [])) ≡ 8
unfolding widths
net_head_bits net = length-group_bits _

-- a net takes the bits that reading says
pub net_bits_lem : (net : Net) → length (net_bits net) ≡ net_width net
unfolding net_bits net_width
net_bits_lem net = simp (length-append, net_head_bits, concat_bits vertex_bits 19 vertex_bits_lem, concat_bits box_bits 38 box_bits_lem) (omega arith)

-- some nets take the bits that reading says
pub nets_bits : (nets : List Net) → length (flat_map net_bits nets) ≡ nets_width nets
unfolding flat_map nets_width
nets_bits [] = refl
nets_bits (net ∷ nets) = simp (length-append, net_bits_lem, nets_bits nets)

-- the head takes 80 bits
pub head_bits_lem : (j : Job) → length (head_bits j) ≡ 80
unfolding head_bits widths
head_bits_lem j = length-group_bits _

-- the whole job: head, layer lines, obstacles and nets
pub job_width : (j : Job) → length (job_bits j) ≡ 80 + 40 * length j.lines + 27 * length j.obstacles + nets_width j.nets
unfolding job_bits
job_width j =
    simp (length-append, head_bits_lem, nets_bits, concat_bits layer_bits 40 layer_bits_lem, concat_bits obstacle_bits 27 obstacle_bits_lem) (omega arith)

-- good nets take at most 882 bits each
nets_small : (g : Grid) (obstacles : List Obstacle) (nets : List Net) → All (GoodNet g obstacles) nets → nets_width nets ≤ 882 * length nets
unfolding All nets_width net_width
nets_small g obstacles [] h = omega arith
nets_small g obstacles (net ∷ nets) h = let rest = nets_small g obstacles nets h.1 in omega arith

-- a good job is at most 262,144 bytes
pub job_small : (j : Job) → GoodJob j → length (pack_job j) ≤ 262144
unfolding pack_job
job_small j good-j =
    let nets = nets_small j.grid j.obstacles j.nets good-j.good_nets in
    omega (arith, length-pack_bits (job_bits j), job_width j)
