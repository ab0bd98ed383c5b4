-- Reading and packing a job undo each other: bytes are read as a good job exactly where they are that job's
-- packed bytes and it keeps the rules.
--     two_way         the law
--     rules_hold      a job that was read keeps the rules
--     job_bits_lem    the bits of a good job's bytes are its groups, then fewer than eight zero bits
--     net_at          the bit at which a net begins
--     net_at_lem      a net's bits stand there
pub mod Places
mod Many
pub mod Widths
pub mod Groups
pub mod Heads
mod Pins
pub mod Nets
pub mod Filled
mod Jobs
use Prim.Native.Nat.{ℕ, ◌+◌, ◌<◌}
use mathlib.Core.Path.{◌≡◌, refl}
use mathlib.Core.Logic.{◌↔◌}
use mathlib.Core.List.{List, [], ◌∷◌, ◌++◌, append_assoc, flat_map}
use lib.ListN.{length, take, drop, replicate}
use lib.Seq.{take-append_seam}
use lib.Dec.{leb}
use Rattle.bits.specs.Bits.{bits_of}
use Rattle.bits.specs.Puts.{AllBelow}
use Rattle.bits.proofs.Laws.{bits_of_bits}
use Rattle.job.specs.Job.{Net, Job}
use Rattle.job.specs.Reading.{good, ◌>>◌, rule, obstacles_at, nets_at, nets_width, read_job}
use Rattle.job.specs.Heads.{job_head, read_bits}
use Rattle.job.specs.Packing.{net_bits, job_bits, pack_job}
use Rattle.job.specs.Good.{GoodJob}
use Rattle.job.proofs.Tests.{tests}
use Rattle.job.proofs.Binds.{steps}
use Rattle.job.proofs.TwoWay.Places.{Placed, placed-append}
use Rattle.job.proofs.TwoWay.Widths.{nets_bits, job_small}
use Rattle.job.proofs.TwoWay.Filled.{job_below, filled_tail, filled_packed}
use Rattle.job.proofs.TwoWay.Jobs.{job_placed, bits_read}

-- reading bytes: their number, then their bits
job_form : (b : List ℕ) → read_job b ≡ ◌>>◌ (rule 1 0 (leb (length b) 262144)) (read_bits (bits_of b))
unfolding read_job read_bits
job_form b = refl

-- bytes are read as a good job exactly where they are that job's packed bytes and it keeps the rules
pub two_way : (b : List ℕ) (j : Job) → AllBelow 256 b → (read_job b ≡ good j) ↔ ((b ≡ pack_job j) × GoodJob j)
unfolding pack_job
two_way b j bytes =
    simp (job_form, steps, tests, bits_read (bits_of b) (bits_of_bits b), filled_packed b (job_bits j) bytes (job_below j))
    (λ (n, h). h, λ h. (rw h.0 (job_small j h.1), h))

-- a job that was read keeps the rules
pub rules_hold : (b : List ℕ) (j : Job) → read_job b ≡ good j → GoodJob j
rules_hold b j e = let h = simp (job_form, steps, bits_read (bits_of b) (bits_of_bits b)) at e in h.1.1

-- the bits of a good job's bytes are its groups, then fewer than eight zero bits
pub job_bits_lem : (b : List ℕ) (j : Job) → read_job b ≡ good j → (k : ℕ) × (k < 8) × (bits_of b ≡ job_bits j ++ replicate k 0)
job_bits_lem b j e = let h = simp (job_form, steps, bits_read (bits_of b) (bits_of_bits b)) at e in h.1.0

-- the bit at which a net begins: after the head, the layer lines, the obstacles and the nets before it
unfoldable pub net_at : Job → (i : ℕ) → ℕ
net_at j i = nets_at (job_head j) + nets_width (take i j.nets)

-- the bits of two lists of groups
concat-append : {A : Type 0} (bits : A → List ℕ) (xs ys : List A) → flat_map bits (xs ++ ys) ≡ flat_map bits xs ++ flat_map bits ys
unfolding flat_map
concat-append bits [] ys = refl
concat-append bits (x ∷ xs) ys = rw (concat-append bits xs ys, append_assoc)

-- where nets stand, each stands behind those before it
one_placed : (B : List ℕ) (at : ℕ) (before : List Net) (net : Net) (after : List Net)
    → Placed B at (flat_map net_bits (before ++ (net ∷ after))) → Placed B (at + nets_width before) (net_bits net)
unfolding flat_map
one_placed B at before net after p = (simp (concat-append net_bits before (net ∷ after), placed-append, nets_bits) at p).1.0

-- a net's bits stand there
pub net_at_lem : (b : List ℕ) (j : Job) → read_job b ≡ good j → (before : List Net) (net : Net) (after : List Net)
    → j.nets ≡ before ++ (net ∷ after)
    → (rest : List ℕ) × (drop (net_at j (length before)) (bits_of b) ≡ net_bits net ++ rest)
unfolding Placed net_at nets_at obstacles_at
net_at_lem b j e before net after same =
    let lines = (rules_hold b j e).lines in
    let parts = (job_placed (bits_of b) j).0 ((filled_tail (bits_of b) (job_bits j) (bits_of_bits b)).0 (job_bits_lem b j e)).0 in
    let first : take (length before) j.nets ≡ before = rw (same, take-append_seam) in
    let here = one_placed (bits_of b) _ before net after (rw same at parts.1.1.1) in
    (_, rw (lines, ← first) at here)
