-- A refusal has a number of the specification's table: no rule of a job refuses by 0, or by 7, which is
-- retired.
--     in_use, refuses                 the numbers that a call may answer, and those that refuse
--     Numbered                        of what reading answers
--     rule_numbered, then_, bind_     of rules and of what follows them
--     numbered_some, numbered_used    so a refusal's number is not 0, and is in use
--     job_numbered                    of reading a job
use Prim.Native.Nat.{ℕ, zero, suc, ◌+◌, ◌≤◌}
use mathlib.Core.Path.{◌≡◌}
use mathlib.Core.List.{List, [], ◌∷◌, ◌++◌}
use mathlib.Core.Bool.{Bool, true, false, ◌&&◌, not}
use lib.Dec.{T, leb, eqb, leb→le}
use Rattle.bits.specs.Bits.{bits_of}
use Rattle.job.specs.Grid.{Grid, Vertex}
use Rattle.job.specs.Job.{Obstacle}
use Rattle.job.specs.Reading.{Read, refused, good, ◌>>=◌, ◌>>◌, rule, read_many, Head, read_head, read_layer, read_obstacle}
use Rattle.job.specs.Reading.{read_pin, read_pins, read_box, read_net, net_width, read_nets, read_tail, read_after_head, read_job}
use Rattle.job.specs.Heads.{read_bits}
use Rattle.job.proofs.Tests.{and_holds}

-- "Number 7 is retired."
abbrev pub in_use : ℕ → Bool
in_use n = leb n 19 && not (eqb n 7)

-- 0 is answered where nothing is refused
abbrev pub refuses : ℕ → Bool
refuses n = leb 1 n && in_use n

-- what is refused has such a number
unfoldable pub Numbered : {A : Type 0} → Read A → Type 0
Numbered (refused n p) = T (refuses n)
Numbered (good a) = Unit

-- a rule
pub rule_numbered : (n p : ℕ) (holds : Bool) → T (refuses n) → Numbered (rule n p holds)
unfolding rule Numbered
rule_numbered n p true some = tt
rule_numbered n p false some = some

module _ {A B : Type 0} where
  -- a reading, then another
  pub then_numbered : (x : Read A) (next : Read B) → Numbered x → Numbered next → Numbered (◌>>◌ x next)
  unfolding ◌>>◌ Numbered
  then_numbered (refused n p) next h k = h
  then_numbered (good a) next h k = k

  -- a reading, then what goes on with its value
  pub bind_numbered : (x : Read A) (next : A → Read B) → Numbered x → ((a : A) → Numbered (next a)) → Numbered (◌>>=◌ x next)
  unfolding ◌>>=◌ Numbered
  bind_numbered (refused n p) next h k = h
  bind_numbered (good a) next h k = k a

module _ {A : Type 0} {x : Read A} {n p : ℕ} (h : Numbered x) (e : x ≡ refused n p) where
  -- both tests of a refusal's number
  tested : T (leb 1 n) × T (in_use n)
  unfolding Numbered
  tested = (and_holds (leb 1 n) (in_use n)).0 (rw e at h)

  -- so it is not 0
  pub numbered_some : 1 ≤ n
  numbered_some = leb→le 1 n tested.0

  -- and is in use
  pub numbered_used : T (in_use n)
  numbered_used = tested.1

-- a value that was read
pub good_numbered : {A : Type 0} (a : A) → Numbered (good a)
unfolding Numbered
good_numbered a = tt

-- groups of one width
many_numbered : {A : Type 0} (width : ℕ) (read : (after at : ℕ) → Read A) (n at : ℕ) → ((after at : ℕ) → Numbered (read after at))
    → Numbered (read_many width read n at)
unfolding read_many
many_numbered width read zero at h = good_numbered []
many_numbered width read (suc n) at h =
    bind_numbered _ _ (h n at) (λ x. bind_numbered _ _ (many_numbered width read n (at + width) h) (λ xs. good_numbered (x ∷ xs)))

module _ (bits : List ℕ) where
  -- the head
  head_numbered : Numbered (read_head bits)
  unfolding read_head
  head_numbered =
      then_numbered _ _ (rule_numbered 2 _ _ tt)
      (then_numbered _ _ (rule_numbered 3 _ _ tt) (then_numbered _ _ (rule_numbered 4 _ _ tt) (good_numbered _)))

  -- a layer line
  layer_numbered : (after at : ℕ) → Numbered (read_layer bits after at)
  unfolding read_layer
  layer_numbered after at =
      then_numbered _ _ (rule_numbered 2 _ _ tt)
      (then_numbered _ _ (rule_numbered 5 _ _ tt)
      (then_numbered _ _ (rule_numbered 5 _ _ tt) (then_numbered _ _ (rule_numbered 5 _ _ tt) (good_numbered _))))

  -- an obstacle
  obstacle_numbered : (g : Grid) (after at : ℕ) → Numbered (read_obstacle bits g after at)
  unfolding read_obstacle
  obstacle_numbered g after at =
      then_numbered _ _ (rule_numbered 2 _ _ tt) (then_numbered _ _ (rule_numbered 6 _ _ tt) (good_numbered _))

  module _ (g : Grid) (obstacles : List Obstacle) where
    -- pins
    pins_numbered : (earlier : List Vertex) (n at : ℕ) → Numbered (read_pins bits g obstacles earlier n at)
    unfolding read_pins read_pin
    pins_numbered earlier zero at = good_numbered []
    pins_numbered earlier (suc n) at =
        bind_numbered _ _
        (then_numbered _ _ (rule_numbered 2 _ _ tt)
        (then_numbered _ _ (rule_numbered 8 _ _ tt) (then_numbered _ _ (rule_numbered 9 _ _ tt) (good_numbered _))))
        (λ pin. bind_numbered _ _ (pins_numbered (pin ∷ earlier) n (at + 19)) (λ pins. good_numbered (pin ∷ pins)))

    -- a box
    box_numbered : (after at : ℕ) → Numbered (read_box bits g after at)
    unfolding read_box
    box_numbered after at =
        then_numbered _ _ (rule_numbered 2 _ _ tt) (then_numbered _ _ (rule_numbered 10 _ _ tt) (good_numbered _))

    -- a net
    net_numbered : (earlier : List Vertex) (at : ℕ) → Numbered (read_net bits g obstacles earlier at)
    unfolding read_net
    net_numbered earlier at =
        then_numbered _ _ (rule_numbered 2 _ _ tt)
        (bind_numbered _ _ (pins_numbered earlier _ _) (λ pins. bind_numbered _ _ (many_numbered 38 _ _ _ box_numbered) (λ boxes. good_numbered _)))

    -- nets
    nets_numbered : (earlier : List Vertex) (n at : ℕ) → Numbered (read_nets bits g obstacles earlier n at)
    unfolding read_nets
    nets_numbered earlier zero at = good_numbered []
    nets_numbered earlier (suc n) at =
        bind_numbered _ _ (net_numbered earlier at)
        (λ net. bind_numbered _ _ (nets_numbered (net.pins ++ earlier) n (at + net_width net)) (λ nets. good_numbered (net ∷ nets)))

  -- all after the head
  rest_numbered : (head : Head) → Numbered (read_after_head bits head)
  unfolding read_after_head read_tail
  rest_numbered head =
      bind_numbered _ _ (many_numbered 40 _ _ _ layer_numbered) (λ lines.
      bind_numbered _ _ (many_numbered 27 _ _ _ (obstacle_numbered head.grid)) (λ obstacles.
      bind_numbered _ _ (nets_numbered head.grid obstacles [] _ _) (λ nets.
      then_numbered _ _ (rule_numbered 11 _ _ tt) (good_numbered _))))

-- reading a job
pub job_numbered : (bytes : List ℕ) → Numbered (read_job bytes)
unfolding read_job read_bits
job_numbered bytes =
    then_numbered _ _ (rule_numbered 1 _ _ tt) (bind_numbered _ _ (head_numbered (bits_of bytes)) (rest_numbered (bits_of bytes)))
