-- The whole job, from its bits: reading it gives a good job exactly where the job's bits stand first, zero
-- bits fill the last byte, nothing follows, and the job keeps the rules.
--     job_head, job_of, read_after_head    the head of a job; a job from its head and the rest; what is read
--                                          after the head
--     job_placed                           a job's bits stand first where each of its parts stands where it
--                                          belongs
--     after_good, good_after               the law for what is read after the head, one way and the other
--     bits_read                            the law
use Prim.Native.Nat.{ℕ, ◌+◌, ◌*◌}
use native.Mathlib.Omega.{arith}
use mathlib.Core.Path.{◌≡◌, refl}
use mathlib.Core.Logic.Iff
use mathlib.Core.Logic.{◌↔◌}
use mathlib.Core.List.{List, flat_map}
use lib.ListN.{length}
use Rattle.bits.specs.Puts.{AllBelow}
use Rattle.job.specs.Job.{Layer, Obstacle, Net, Job}
use Rattle.job.specs.Reading.{Head, good, read_head, read_tail, read_after_head}
use Rattle.job.specs.Heads.{read_bits, job_head}
use Rattle.job.specs.Reading.{obstacles_at, nets_at, nets_width}
use Rattle.job.specs.Packing.{head_bits, layer_bits, obstacle_bits, net_bits, job_bits}
use Rattle.bits.specs.Bits.{group_bits}
use Rattle.job.specs.Good.{GoodJob}
use Rattle.job.proofs.Tests.{tests}
use Rattle.job.proofs.Binds.{bind_good, steps}
use Rattle.job.proofs.TwoWay.Places.{Placed, placed-append}
use Rattle.job.proofs.TwoWay.Widths.{layer_bits_lem, obstacle_bits_lem, head_bits_lem, concat_bits, job_width}
use Rattle.job.proofs.TwoWay.Groups.{lines_read, obstacles_read}
use Rattle.job.proofs.TwoWay.Heads.{GoodHead, head_fields, head_read_lem}
use Rattle.job.proofs.TwoWay.Pins.{new_all}
use Rattle.job.proofs.TwoWay.Nets.{nets_read}
use Rattle.job.proofs.TwoWay.Filled.{Filled, filled_tail}

-- a job's bits stand first where those of its head, its layer lines, its obstacles and its nets stand where
-- they belong
pub job_placed : (B : List ℕ) (j : Job)
    → Placed B 0 (job_bits j)
    ↔ (Placed B 0 (head_bits j)
    × (Placed B 80 (flat_map layer_bits j.lines)
    × (Placed B (80 + 40 * length j.lines) (flat_map obstacle_bits j.obstacles)
    × Placed B (80 + 40 * length j.lines + 27 * length j.obstacles) (flat_map net_bits j.nets))))
unfolding job_bits
job_placed B j =
    simp (placed-append, head_bits_lem, concat_bits layer_bits 40 layer_bits_lem, concat_bits obstacle_bits 27 obstacle_bits_lem) Iff.rfl

-- a job from its head and the rest
abbrev job_of : Head → List Layer → List Obstacle → List Net → Job
job_of head lines obstacles nets =
    record { grid = head.grid; guide = head.guide; short = head.short; lines = lines; obstacles = obstacles; nets = nets }

module _ (B : List ℕ) (bits : AllBelow 2 B) where
  -- what is read after a good head is good only where the job's bits stand there and it keeps the rules
  after_good : (head : Head) (j : Job) → Placed B 0 (group_bits (head_fields head)) → GoodHead head → read_after_head B head ≡ good j
      → Filled B (job_bits j) × GoodJob j
  unfolding read_after_head read_tail obstacles_at nets_at head_bits
  after_good head j p h =
      simp (steps, tests, lines_read B bits, obstacles_read B bits head.grid h.grid, nets_read B bits head.grid h.grid, new_all)
      (λ (lines, (n, (q, good-lines)), (obstacles, (m, (r, good-obstacles)), (nets, (l, (s, (good-nets, new))), (tail, same)))).
      let read : Job = job_of head lines obstacles nets in
      let end : nets_at head + nets_width nets ≡ length (job_bits read) = omega (arith, job_width read) in
      rw (← same) (
        (filled_tail B (job_bits read) bits).1 ((job_placed B read).1 (rw (l, m) p, (q, (rw n r, rw (n, m) s))), rw end at tail),
        record {
          grid = h.grid;
          guide = h.guide;
          short = h.short;
          lines = n;
          good_lines = good-lines;
          obstacles = rw m h.obstacles;
          good_obstacles = good-obstacles;
          nets = rw l h.nets;
          good_nets = good-nets;
          distinct_pins = new;
        },
      ))

  -- and it is good there
  good_after : (j : Job) → Filled B (job_bits j) → GoodJob j → read_after_head B (job_head j) ≡ good j
  unfolding read_after_head read_tail obstacles_at nets_at head_bits
  good_after j filled h =
      let p = (filled_tail B (job_bits j) bits).0 filled in
      let q = (job_placed B j).0 p.0 in
      let end : length (job_bits j) ≡ 80 + 40 * j.grid.layers + 27 * length j.obstacles + nets_width j.nets = rw h.lines at (job_width j) in
      simp (steps, tests, lines_read B bits, obstacles_read B bits j.grid h.grid, nets_read B bits j.grid h.grid, new_all) (
        j.lines,
        (h.lines, (q.1.0, h.good_lines)),
        (
          j.obstacles,
          (refl, (rw h.lines at q.1.1.0, h.good_obstacles)),
          (j.nets, (refl, (rw h.lines at q.1.1.1, (h.good_nets, h.distinct_pins))), (rw end at p.1, refl)),
        ),
      )

  -- a good job has a good head
  head_of : (j : Job) → GoodJob j → GoodHead (job_head j)
  head_of j h = record { grid = h.grid; guide = h.guide; short = h.short; nets = h.nets; obstacles = h.obstacles }

  -- bits are read as a job exactly where they are its groups, filled up with zero bits, and it keeps the
  -- rules
  pub bits_read : (j : Job) → (read_bits B ≡ good j) ↔ (Filled B (job_bits j) × GoodJob j)
  unfolding read_bits read_after_head head_bits
  bits_read j = (forth, back)
    where
      forth : read_bits B ≡ good j → Filled B (job_bits j) × GoodJob j
      forth e =
          let read = (bind_good (read_head B) (read_after_head B) j).0 e in
          let p = (head_read_lem B bits read.0).0 read.1 in
          after_good read.0 j p.0 p.1 read.2

      back : Filled B (job_bits j) × GoodJob j → read_bits B ≡ good j
      back (filled, h) =
          let p = (job_placed B j).0 ((filled_tail B (job_bits j) bits).0 filled).0 in
          (bind_good (read_head B) (read_after_head B) j).1 (job_head j, (head_read_lem B bits (job_head j)).1 (p.0, head_of j h), good_after j filled h)
