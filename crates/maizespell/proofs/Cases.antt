-- The line, case by case, as the code comes to it.
--     routed_refused, routed_plan, routed_room     what routing answered, x, with the plan slice at exit; a
--                                                  plan's line has room
--     good_wide, good_long, good_small             a good job of v vertices and a largest M of m
--     line_long, line_refused, line_good           any bytes
use Prim.Native.Nat.{ℕ, ◌≤◌, ◌<◌}
use mathlib.Core.Path.{◌≡◌, ap, ◌∙◌}
use mathlib.Core.List.{List}
use native.Mathlib.Omega.{arith}
use lib.ListN.{length, take, replicate, length-replicate}
use borrow.Author.Tests.{lt-ltb, le-ltb, eq-eqb, ne_eqb}
use Rattle.job.specs.Grid.{vertices}
use Rattle.job.specs.Job.{largest_min_length}
use Rattle.job.specs.Reading.{refused, read_job}
use Rattle.job.specs.Structs.{grid_of}
use Rattle.reader.specs.Structs.{largest_in}
use Rattle.reader.specs.declared.whole.JobRead.{JobRead}
use Rattle.reader.proofs.Outcome.{ReadGood}
use Rattle.lines.specs.Lines.{hex_line, refused_line, too_large_line}
use Rattle.router.specs.declared.routing_call.RoutingResult.{RoutingResult}
use Rattle.router.proofs.Promises.{plan_within}
use Rattle.maizespell.specs.Line.{outcome_line, lent, routed_line, good_line, read_line, line_of}

module _ (bytes : List ℕ) (x : RoutingResult) (ex : x ≡ (lent bytes).result) where
  pub routed_refused : ((x.refusal ≡ 0) → ⊥) → routed_line bytes ≡ refused_line x.refusal x.place
  unfolding routed_line outcome_line
  routed_refused h = rw (← ex, ne_eqb x.refusal 0 h)

  pub routed_plan : (plan : List ℕ) → plan ≡ (lent bytes).plan → x.refusal ≡ 0 → routed_line bytes ≡ hex_line (take x.bytes plan)
  unfolding routed_line outcome_line
  routed_plan plan ep h = rw (← ex, ← ep, eq-eqb x.refusal 0 h)

  pub routed_room : x.bytes ≤ 65536
  routed_room = rw ex (omega (arith, length-replicate {A = ℕ} 65536 0, plan_within bytes (replicate 256 0) (replicate 8192 0) (replicate 65536 0)))

module _ (bytes : List ℕ) (v m : ℕ) where
  pub good_wide : 256 < v → good_line bytes v m ≡ too_large_line
  unfolding good_line
  good_wide h = rw (lt-ltb 256 v h)

  pub good_long : v ≤ 256 → 7 < m → good_line bytes v m ≡ too_large_line
  unfolding good_line
  good_long h l = rw (le-ltb 256 v h, lt-ltb 7 m l)

  pub good_small : v ≤ 256 → m ≤ 7 → good_line bytes v m ≡ routed_line bytes
  unfolding good_line
  good_small h l = rw (le-ltb 256 v h, le-ltb 7 m l)

module _ (bytes : List ℕ) where
  pub line_long : 65536 < length bytes → line_of bytes ≡ too_large_line
  unfolding line_of
  line_long h = rw (lt-ltb 65536 (length bytes) h)

  pub line_refused : (n p : ℕ) → length bytes ≤ 65536 → read_job bytes ≡ refused n p → line_of bytes ≡ refused_line n p
  unfolding line_of read_line
  line_refused n p h e = rw (le-ltb 65536 (length bytes) h, e)

  pub line_good : (x : JobRead) (v m : ℕ) → length bytes ≤ 65536 → ReadGood bytes x → v ≡ vertices (grid_of x.head.grid) → m ≡ largest_in x.layers
      → line_of bytes ≡ good_line bytes v m
  unfolding line_of read_line
  line_good x v m h read ev em =
      let same-v : v ≡ vertices read.job.grid = ev ∙ ap (λ h. vertices (grid_of h.grid)) read.head in
      let same-m : m ≡ largest_min_length read.job.lines = em ∙ read.largest in
      rw (le-ltb 65536 (length bytes) h, read.read, same-v, same-m)
