-- What the group of the head says, and what its grid is.
--     cut_head                  where the group is cut, the head is not whole
--     WholeHead, whole_head     where it is whole, so is the head, and these are the edition and the head
--     head_small                the grid's numbers lie in their fields' ranges
--     job_too_long              a job of too many bytes
--     job_head_refused          a job whose head is refused
--     PastHead, job_past_head   a job whose head is good
use Prim.Native.Nat.{ℕ, ◌^◌, ◌≤◌, ◌<◌}
use mathlib.Core.Path.{◌≡◌, sym, ap, ◌∙◌}
use mathlib.Core.List.{List}
use mathlib.Core.Bool.{true, false}
use native.Mathlib.Omega.{arith}
use Rattle.std.proofs.Common.{Some, None}
use borrow.Author.Tests.{le-leb, lt-leb}
use lib.ListN.{length}
use Rattle.bits.specs.Bits.{bits_of, field, whole}
use Rattle.bits.proofs.Laws.{bits_of_bits, field_below}
use Rattle.job.specs.Reading.{refused, good, ◌>>=◌, ◌>>◌, rule, Head, head_at, read_head, read_after_head, read_job}
use Rattle.job.specs.Heads.{read_bits}
use Rattle.job.specs.Structs.{head_group, head_of, head_struct, grid_struct, Small, Sized}
use Rattle.reader.specs.Structs.{head_read}
use Rattle.job.specs.declared.groups.Head.{Head as HeadStruct}
use Rattle.job.proofs.TwoWay.Heads.{head_read_lem}
use Rattle.job.proofs.Binds.{made_refused, made_good}
use Rattle.job.proofs.Fields.{first_arm, second_arm}

-- the group is cut: the head is not whole
pub cut_head : (bytes : List ℕ) → head_group bytes ≡ None → whole (bits_of bytes) 0 80 ≡ false
unfolding head_group
cut_head bytes e = second_arm _ _ _ _ e (λ e. cc)

-- the head is whole, n is its edition and h what it holds
pub record WholeHead (bytes : List ℕ) (n : ℕ) (h : HeadStruct) : Type 0 where
  pub whole : whole (bits_of bytes) 0 80 ≡ true
  pub edition : n ≡ field (bits_of bytes) 0 4
  pub head : h ≡ head_struct (head_at (bits_of bytes) 0)

-- the group is whole: so is the head, and the group has its numbers
pub whole_head : (bytes : List ℕ) (n : ℕ) (h : HeadStruct) → head_group bytes ≡ Some (n, h) → WholeHead bytes n h
unfolding head_group
whole_head bytes n h e =
    let arm = first_arm _ _ None (Some (n, h)) e (λ e. cc) in
    let same : ◌≡◌ {A = ℕ × HeadStruct} (n, h) (field (bits_of bytes) 0 4, head_struct (head_at (bits_of bytes) 0)) = cc (sym arm.1) in
    record { whole = arm.0; edition = ap (λ (x : ℕ × HeadStruct). x.0) same; head = ap (λ (x : ℕ × HeadStruct). x.1) same }

-- the grid's numbers lie in their fields' ranges
pub head_small : (bytes : List ℕ) → Small (grid_struct (head_at (bits_of bytes) 0).grid)
unfolding head_at
head_small bytes =
    let bits = bits_of_bits bytes in
    record {
      direction = omega (arith, field_below (bits_of bytes) 4 1 bits);
      layers = omega (arith, field_below (bits_of bytes) 5 3 bits);
      columns = omega (arith, field_below (bits_of bytes) 8 8 bits);
      rows = omega (arith, field_below (bits_of bytes) 16 8 bits);
    }

-- ---- the head of a whole job

-- too many bytes are refused by 1
pub job_too_long : (bytes : List ℕ) → 262144 < length bytes → read_job bytes ≡ refused 1 0
unfolding read_job rule ◌>>◌
job_too_long bytes h = rw (lt-leb (length bytes) 262144 h)

-- with no more bytes than that, the bits are read
job_bits_lem : (bytes : List ℕ) → length bytes ≤ 262144 → read_job bytes ≡ read_bits (bits_of bytes)
unfolding read_job read_bits rule ◌>>◌
job_bits_lem bytes h = rw (le-leb (length bytes) 262144 h)

-- a job whose head is refused
pub job_head_refused : (bytes : List ℕ) {n p : ℕ} → length bytes ≤ 262144 → refused n p ≡ head_read (read_head (bits_of bytes))
    → read_job bytes ≡ refused n p
unfolding read_bits head_read ◌>>=◌
job_head_refused bytes h e = job_bits_lem bytes h ∙ rw (made_refused head_struct _ e)

-- what is known after a good head: what follows it decides, and its numbers lie in their ranges
pub record PastHead (bytes : List ℕ) (h : HeadStruct) : Type 0 where
  pub same : read_job bytes ≡ read_after_head (bits_of bytes) (head_of h)
  pub sized : Sized h.grid
  pub nets : h.nets < 2 ^ 8
  pub obstacles : h.obstacles < 2 ^ 16

-- a head that was read, with what it shows
past_head : (bytes : List ℕ) (x : Head) → length bytes ≤ 262144 → read_head (bits_of bytes) ≡ good x → PastHead bytes (head_struct x)
unfolding read_bits ◌>>=◌
past_head bytes x small e =
    let rules = ((head_read_lem (bits_of bytes) (bits_of_bits bytes) x).0 e).1 in
    let grid = rules.grid in
    record {
      same = job_bits_lem bytes small ∙ rw e;
      sized = record {
        small = record { direction = omega (arith, grid.direction); layers = grid.layers; columns = grid.columns; rows = grid.rows };
        vertices = grid.vertices;
      };
      nets = rules.nets;
      obstacles = rules.obstacles;
    }

pub job_past_head : (bytes : List ℕ) {h : HeadStruct} → length bytes ≤ 262144 → good h ≡ head_read (read_head (bits_of bytes)) → PastHead bytes h
unfolding head_read
job_past_head bytes small e = let read = made_good head_struct _ e in rw read.2 (past_head bytes read.0 small read.1)
