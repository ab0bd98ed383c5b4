-- What follows the head, way out by way out: a layer line is refused, something after the lines is, or the
-- job is good.
--     Told                   what reading after the head, or a whole job, promises
--     told_refused_job       after a refusal
--     lines_refused_job      a layer line is refused
--     rest_refused_job       an obstacle, a net or the tail is refused
--     rest_good_job          the job is good
use Prim.Native.Nat.{ℕ, ◌≤◌, ◌+◌}
use mathlib.Core.Path.{◌≡◌, refl, sym, ap, ◌∙◌}
use mathlib.Core.List.{List, []}
use native.Mathlib.Omega.{arith}
use lib.ListN.{length}
use Rattle.job.specs.Grid.{vertices}
use Rattle.job.specs.Job.{Layer, Obstacle, Net, Job}
use Rattle.job.specs.Reading.{Read, refused, good, ◌>>=◌, Head, read_many, read_layer, read_obstacle, read_nets, read_after_head}
use Rattle.job.specs.Heads.{job_head}
use Rattle.job.specs.Reading.{obstacles_at, nets_at, nets_width}
use Rattle.job.specs.Good.{all_pins}
use Rattle.job.specs.Structs.{grid_of, head_of}
use Rattle.job.specs.Structs.{layers_of}
use Rattle.reader.specs.Structs.{layers_read, job_end, job_read}
use Rattle.occupants.specs.Occupants.{Occupants, answer_of, occupants_of, groups_from}
use Rattle.job.specs.declared.groups.Head.{Head as HeadStruct}
use Rattle.job.specs.declared.groups.Layer.{Layer as LayerStruct}
use Rattle.reader.specs.declared.whole.JobRead.{JobRead}
use Rattle.job.proofs.Binds.{good_good, then_good, bind_good, made_refused, made_good}
use Rattle.occupants.proofs.Covering.{read_rest, rest_of_job, groups_refused, groups_good, many_length, nets_length}

-- x is what reading answers, and after a good job the occupants tell its obstacles and pins
abbrev pub Told : Read Job → Read JobRead → List ℕ → Type 0
Told r x occupied =
    record { read : (x ≡ job_read r); occupants : (j : Job) → r ≡ good j → Occupants j.grid j.obstacles (all_pins j.nets) occupied }

-- after a refusal the occupants tell nothing
pub told_refused_job : {r : Read Job} {x : Read JobRead} {occupants : List ℕ} {n p : ℕ} → r ≡ refused n p → x ≡ refused n p → Told r x occupants
unfolding job_read ◌>>=◌
told_refused_job e same = rw (e, same) (record { read = refl; occupants = λ j h. absurd (cc) })

-- as many obstacles and nets are read as the head says
rest_lengths : (bits : List ℕ) (head : Head) (rest : List Obstacle × List Net) → read_rest bits head ≡ good rest
    → (length rest.0 ≡ head.obstacles) × (length rest.1 ≡ head.nets)
unfolding read_rest
rest_lengths bits head rest e =
    let first = (bind_good (read_many 27 (read_obstacle bits head.grid) head.obstacles (obstacles_at head)) _ rest).0 e in
    let second = (bind_good (read_nets bits head.grid first.0 [] head.nets (nets_at head)) _ rest).0 first.2 in
    let last = ((then_good _ _ rest).0 second.2).1 in
    let same : (first.0, second.0) ≡ rest = (good_good _ _).0 last in (
      ap (λ (r : List Obstacle × List Net). length r.0) (sym same) ∙ many_length 27 _ _ _ first.0 first.1,
      ap (λ (r : List Obstacle × List Net). length r.1) (sym same) ∙ nets_length bits _ _ _ _ _ second.0 second.1,
    )

-- a job from its head, its layer lines and the rest
abbrev job_from : Head → List Layer → List Obstacle × List Net → Job
job_from head ls rest =
    record { grid = head.grid; guide = head.guide; short = head.short; lines = ls; obstacles = rest.0; nets = rest.1 }

-- after the lines comes the rest
after_lines : (bits : List ℕ) (head : Head) (ls : List Layer) (r : Read (List Obstacle × List Net))
    → read_many 40 (read_layer bits) head.grid.layers 80 ≡ good ls → read_rest bits head ≡ r
    → read_after_head bits head ≡ ◌>>=◌ r (λ rest. good (job_from head ls rest))
unfolding ◌>>=◌
after_lines bits head ls r e f = rest_of_job bits head ∙ rw (e, f)

-- h is the head, x the lines
module _ (bits : List ℕ) (h : HeadStruct) where
  -- a layer line is refused
  pub lines_refused_job : {n p : ℕ} → refused n p ≡ layers_read (read_many 40 (read_layer bits) h.grid.layers 80) → read_after_head bits (head_of h) ≡ refused n p
  unfolding layers_read ◌>>=◌
  lines_refused_job lines = rw (rest_of_job bits (head_of h), made_refused layers_of _ lines)

  module _ {x : List LayerStruct} (lines : good x ≡ layers_read (read_many 40 (read_layer bits) h.grid.layers 80)) (m : List ℕ)
      (small : vertices (grid_of h.grid) ≤ 16384) (bare : Occupants (grid_of h.grid) [] [] m) where
    -- the lines, and then the rest
    rest_job : (r : Read (List Obstacle × List Net)) → read_rest bits (head_of h) ≡ r
        → (ls : List Layer) × (x ≡ layers_of ls) × (read_after_head bits (head_of h) ≡ ◌>>=◌ r (λ rest. good (job_from (head_of h) ls rest)))
    unfolding layers_read
    rest_job r f =
        let ls = made_good layers_of _ lines in
        (ls.0, ls.2, after_lines bits (head_of h) ls.0 r ls.1 f)

    -- an obstacle, a net or the tail is refused
    pub rest_refused_job : {n p : ℕ} → refused n p ≡ answer_of (groups_from bits (head_of h) m) → read_after_head bits (head_of h) ≡ refused n p
    unfolding ◌>>=◌
    rest_refused_job {n} {p} e = by (read_rest bits (head_of h)) refl
      where
        by : (r : Read (List Obstacle × List Net)) → read_rest bits (head_of h) ≡ r → read_after_head bits (head_of h) ≡ refused n p
        by (refused k q) f = let g = groups_refused bits (head_of h) m k q small bare f in (rest_job (refused k q) f).2 ∙ cc
        by (good rest) f =
            let g = (groups_good bits (head_of h) m rest.0 rest.1 small bare f).0 in
            absurd (cc)

    -- the job is good
    pub rest_good_job : {end : ℕ} → good end ≡ answer_of (groups_from bits (head_of h) m)
        → Told (read_after_head bits (head_of h)) (good (record { end = end; head = h; layers = x })) (occupants_of (groups_from bits (head_of h) m))
    unfolding ◌>>=◌ job_read job_end nets_at obstacles_at
    rest_good_job {end} e = by (read_rest bits (head_of h)) refl
      where
        by : (r : Read (List Obstacle × List Net)) → read_rest bits (head_of h) ≡ r
            → Told (read_after_head bits (head_of h)) (good (record { end = end; head = h; layers = x })) (occupants_of (groups_from bits (head_of h) m))
        by (refused k q) f =
            let g = groups_refused bits (head_of h) m k q small bare f in
            absurd (cc)
        by (good rest) f =
            let g = groups_good bits (head_of h) m rest.0 rest.1 small bare f in
            let many = rest_lengths bits (head_of h) rest f in
            let job = rest_job (good rest) f in
            let there : end ≡ nets_at (head_of h) + nets_width rest.1 = cc g.0 in
            let ends : end ≡ nets_at (job_head (job_from (head_of h) job.0 rest)) + nets_width rest.1 = omega (arith, there, many.0) in
            let answer : good (record { end = end; head = h; layers = x }) ≡ job_read (good (job_from (head_of h) job.0 rest)) =
            λ i. good (record {
              end = ends i;
              head = record { grid = h.grid; guide = h.guide; short = h.short; nets = sym many.1 i; obstacles = sym many.0 i };
              layers = job.1 i;
            }) in record {
              read = answer ∙ ap job_read (sym job.2);
              occupants = λ j k. let same : job_from (head_of h) job.0 rest ≡ j = (good_good _ _).0 (sym job.2 ∙ k) in
                  rw (← same) g.1;
            }
