-- What the code's overheads mean.
--     Owing, short_told    a segment that owes, and what, by a layer line as the code has read it
--     short_pays           not as many are clear as are missing: the area penalty
--     short_lays           as many are clear: the extension
use Prim.Native.Nat.{ℕ, ◌+◌, ◌-◌, ◌*◌, ◌≤◌, ◌<◌}
use mathlib.Core.Path.{◌≡◌, refl, sym, ap, ◌∙◌}
use mathlib.Core.List.{List}
use native.Mathlib.Omega.{arith}
use lib.ListN.{length, length-append}
use borrow.Author.Tests.{eq-eqb, ne_eqb}
use Rattle.job.specs.Grid.{Grid, vertices}
use Rattle.job.specs.Job.{Layer}
use Rattle.job.specs.Structs.{layer_struct}
use Rattle.job.specs.declared.groups.Layer.{Layer as LayerStruct}
use Rattle.rules.specs.Views.{View}
use Rattle.rules.specs.Segments.{Direction, opposite, Segment, fresh, running, paid, paid_toward, Place}
use Rattle.rules.specs.Prices.{Tech, line_of}
use Rattle.rules.specs.Overheads.{clear_run, first_of, both_ends, Overhead, owes, otherwise, lengthened_by, too_short, overhead_of}
use Rattle.rules.specs.Structs.{heading_of, steps_of, line_record, laid_by, Whole, overhead_by, FewMissing, WholeOverhead, IsOverhead}
use Rattle.rules.specs.declared.overhead.Extension.{Extension}
use Rattle.rules.specs.declared.overhead.Overhead.{Overhead as OverheadEnum}
use Rattle.rules.specs.declared.overhead.Overhead.TheVariants.{Lengthened}
use Rattle.rules.proofs.Firsts.{first_below}
use Rattle.rules.proofs.Rooms.{run_within}
use Rattle.rules.proofs.Ends.{run_whole}

-- what is owed by one name is owed by an equal one
owed_as : {wire area : ℕ} {g : Grid} {view : View} {p : Place} {r : OverheadEnum} {o q : Overhead} → IsOverhead wire area g view p r o → o ≡ q
    → IsOverhead wire area g view p r q
owed_as owed e = record { same = owed.same ∙ e; few = owed.few; whole = owed.whole }

-- as many are clear as are missing
clear_all : (line : Layer) (missing : ℕ) (run : List ℕ) → length run ≡ missing → lengthened_by line missing run ≡ owes (line.wire * missing) run missing 0
unfolding lengthened_by
clear_all line missing run e = rw (eq-eqb (length run) missing e) refl

-- not as many
clear_some : (line : Layer) (missing : ℕ) (run : List ℕ) → (length run ≡ missing → ⊥) → lengthened_by line missing run ≡ otherwise line.area
unfolding lengthened_by
clear_some line missing run ne = rw (ne_eqb (length run) missing ne) refl

-- a segment that owes: one that is not paid
unfoldable pub Owing : Segment → Type 0
Owing fresh = Unit
Owing (running d n) = Unit
Owing paid = ⊥
Owing (paid_toward d) = ⊥

-- what a segment owes, by a layer line as the code has read it
pub short_told : (t : Tech) (view : View) (v : ℕ) (s : Segment) {line : LayerStruct} {r : OverheadEnum} → Owing s → line ≡ layer_struct (line_of t v)
    → IsOverhead line.wire line.area t.grid view (record { vertex = v; segment = s }) r
    (too_short t.grid (line_record line) view v (heading_of s) (steps_of s))
    → IsOverhead (line_of t v).wire (line_of t v).area t.grid view (record { vertex = v; segment = s }) r (overhead_of t view v s)
unfolding Owing heading_of steps_of overhead_of
short_told t view v fresh owing is told = rw is at told
short_told t view v (running d n) owing is told = rw is at told
short_told t view v paid owing is told = absurd owing
short_told t view v (paid_toward d) owing is told = absurd owing

module _ (g : Grid) (line : LayerStruct) (view : View) (v : ℕ) (s : Segment) {d : Direction} {n missing leaving starting : ℕ}
    (heading : heading_of s ≡ d) (steps : steps_of s ≡ n) (is : missing ≡ line.least - n)
    (leaves : leaving ≡ length (clear_run g view d missing v))
    (starts : starting ≡ length (clear_run g view (opposite d) (missing - leaving) (first_of g d n v))) where
  -- the place that is left
  abbrev place : Place
  place = record { vertex = v; segment = s }

  -- those that the definition lays
  abbrev laid : List ℕ
  laid = both_ends g view d missing v (first_of g d n v)

  -- what is owed
  abbrev Owes : OverheadEnum → Type 0
  Owes r = IsOverhead line.wire line.area g view place r (too_short g (line_record line) view v (heading_of s) (steps_of s))

  by_ends : too_short g (line_record line) view v (heading_of s) (steps_of s) ≡ lengthened_by (line_record line) missing laid
  unfolding too_short
  by_ends = rw (heading, steps, is) refl

  -- how many they are
  ends_count : length laid ≡ leaving + starting
  unfolding both_ends
  ends_count =
      length-append (clear_run g view d missing v) (clear_run g view (opposite d) (missing - length (clear_run g view d missing v)) (first_of g d n v))
      ∙ rw (← leaves, ← starts) refl

  -- not as many are clear as are missing
  pub short_pays : {r : OverheadEnum} → leaving + starting < missing → IsOverhead line.wire line.area g view place r (otherwise line.area) → Owes r
  short_pays less area =
      owed_as area (sym (by_ends ∙ clear_some (line_record line) missing laid (λ e. omega (arith, e, ends_count, less))))

  -- the extension by the counts at the two ends
  abbrev counted : Extension
  counted = record { leaving = leaving; starting = starting }

  -- at the leaving end as many as are clear
  leaving_run : clear_run g view d leaving v ≡ clear_run g view d missing v
  leaving_run = rw leaves (run_whole g view d missing v)

  module _ (h : v < vertices g) (enough : missing ≤ leaving + starting) where
    -- at the starting end the rest
    rest : starting ≡ missing - leaving
    rest =
        omega (
          arith,
          enough,
          leaves,
          starts,
          run_within g view d missing v h,
          run_within g view (opposite d) (missing - leaving) (first_of g d n v) (first_below g d n h),
        )

    -- both come to what is missing
    all_laid : leaving + starting ≡ missing
    all_laid = omega (arith, rest, leaves, run_within g view d missing v h)

    -- they are those that the definition lays
    same_laid : laid_by g view place counted ≡ laid
    unfolding laid_by both_ends
    same_laid = rw (heading, steps, leaving_run, rest, ← leaves) refl

    -- they are all clear
    counted-whole : Whole g view place counted
    counted-whole =
        record {
          leaving = rw (heading, leaving_run) (sym leaves);
          starting = rw (heading, steps) (ap (λ (k : ℕ). length (clear_run g view (opposite d) k (first_of g d n v))) rest ∙ sym starts);
        }

    -- as many are clear
    pub short_lays : missing < 16 → Owes (Lengthened missing counted)
    unfolding overhead_by FewMissing WholeOverhead
    short_lays few =
        record {
          same = sym (by_ends ∙ clear_all (line_record line) missing laid (ends_count ∙ all_laid) ∙ ap (λ (vs : List ℕ). owes (line.wire * missing) vs missing 0) (sym same_laid));
          few = few;
          whole = counted-whole;
        }
