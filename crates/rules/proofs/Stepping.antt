-- What the code's steps mean.
--     extension_none                                              an extension with no vertex
--     along_back, along_to                                        a step along the track
--     owed_nothing, _lengthened, _penalised, _forbidden, _closed  a via move, by what it owes
--     step_shut, step_open                                        one move
use Prim.Native.Nat.{ℕ, ◌*◌}
use mathlib.Core.Path.{◌≡◌, refl, sym, ap, ◌∙◌}
use native.Mathlib.Omega.{arith}
use Rattle.std.proofs.Common.{Option, Some, None}
use Rattle.job.specs.Grid.{Grid}
use Rattle.job.specs.declared.groups.Layer.{Layer as LayerStruct}
use Rattle.paths.specs.Costs.{fin, inf}
use Rattle.paths.proofs.Costs.{inf_not_fin}
use Rattle.paths.proofs.OnBest.{same_fin}
use Rattle.rules.specs.Views.{View}
use Rattle.rules.specs.Segments.{Direction, kind_of, Segment, Place, back, grown, grow}
use Rattle.rules.specs.Prices.{Tech}
use Rattle.rules.specs.Overheads.{clear_run, Overhead}
use Rattle.rules.specs.Steps.{leaving, stepping, by_segment, step}
use Rattle.rules.specs.Structs.{segment_of, laid_by, Whole, no_extension, overhead_by, FewMissing, WholeOverhead, IsOverhead, overhead_cost, entry_of, made_by, stepped_by, WholeStep, IsStepped, IsSteppedAnywhere, by_via}
use Rattle.rules.proofs.Entering.{step_of, step_entry}
use Rattle.rules.specs.declared.segment.Segment.{Segment as SegmentEnum}
use Rattle.rules.specs.declared.overhead.Extension.{Extension as ExtensionStruct}
use Rattle.rules.specs.declared.overhead.Overhead.{Overhead as OverheadEnum}
use Rattle.rules.specs.declared.overhead.Overhead.TheVariants.{Nothing, Lengthened, Penalised, Forbidden}
use Rattle.rules.specs.declared.step.Entry.{Entry}
use Rattle.rules.specs.declared.step.Made.{Made as MadeStruct}

-- ---- an extension

-- none was made
pub extension_none : {e : ExtensionStruct} → (e.leaving ≡ 0) × (e.starting ≡ 0) → e ≡ no_extension
unfolding no_extension
extension_none h = λ i. record { leaving = h.0 i; starting = h.1 i }

-- ---- a step along the track

-- no vertex is clear throughout
none_whole : (g : Grid) (view : View) (p : Place) → Whole g view p no_extension
unfolding no_extension clear_run
none_whole g view p = record { leaving = refl; starting = refl }

module _ (least : ℕ) (d : Direction) (s : Segment) (w enter : ℕ) where
  -- against the one before it
  pub along_back : grow least d s ≡ back → IsSteppedAnywhere None (stepping w enter (grow least d s))
  unfolding stepping stepped_by WholeStep
  along_back e g view u = record { same = rw e refl; whole = tt }

  -- or along it
  pub along_to : {to : SegmentEnum} {none : ExtensionStruct} → none ≡ no_extension → grow least d s ≡ grown (segment_of to)
      → IsSteppedAnywhere
      (Some (record { next = record { vertex = w; segment = to }; enter = enter; over = 0; extension = none; added = 0; penalties = 0 }))
      (stepping w enter (grow least d s))
  unfolding stepping stepped_by made_by WholeStep no_extension laid_by clear_run
  along_to n e g view u = rw n (record { same = rw e refl; whole = record { few = omega arith; whole = none_whole g view u } })

-- ---- a via move

module _ (g : Grid) (view : View) (p : Place) (w enter : ℕ) (o : Overhead) (line : LayerStruct) where
  -- the code's overhead, for a layer line
  abbrev Owes : OverheadEnum → Type 0
  Owes r = IsOverhead line.wire line.area g view p r o

  abbrev Leaves : Option MadeStruct → Type 0
  Leaves r = IsStepped g view p r (leaving w enter o)

  -- that owes nothing
  pub owed_nothing : Owes Nothing → {over : ℕ} {none : ExtensionStruct} → fin over ≡ overhead_cost line Nothing → none ≡ no_extension
      → Leaves (by_via w enter over none 0 0)
  unfolding leaving overhead_by overhead_cost by_via stepped_by made_by WholeStep no_extension laid_by clear_run segment_of
  owed_nothing owes {over} costs n =
      let price : over ≡ 0 = same_fin refl costs in
      rw (n, price) (record { same = rw (← owes.same) refl; whole = record { few = omega arith; whole = none_whole g view p } })

  -- that lengthens
  pub owed_lengthened : {n : ℕ} {e : ExtensionStruct} → Owes (Lengthened n e) → {over : ℕ} → fin over ≡ overhead_cost line (Lengthened n e)
      → Leaves (by_via w enter over e n 0)
  unfolding leaving overhead_by overhead_cost FewMissing WholeOverhead by_via stepped_by made_by WholeStep segment_of
  owed_lengthened {n} owes {over} costs =
      let price : over ≡ line.wire * n = same_fin refl costs in
      rw price (record { same = rw (← owes.same) refl; whole = record { few = owes.few; whole = owes.whole } })

  -- that pays the area penalty
  pub owed_penalised : Owes Penalised → {over : ℕ} {none : ExtensionStruct} → fin over ≡ overhead_cost line Penalised → none ≡ no_extension
      → Leaves (by_via w enter over none 0 1)
  unfolding leaving overhead_by overhead_cost by_via stepped_by made_by WholeStep no_extension laid_by clear_run segment_of
  owed_penalised owes {over} costs n =
      let price : over ≡ line.area = same_fin refl costs in
      rw (n, price) (record { same = rw (← owes.same) refl; whole = record { few = omega arith; whole = none_whole g view p } })

  -- that is forbidden
  pub owed_forbidden : Owes Forbidden → Leaves None
  unfolding leaving overhead_by stepped_by WholeStep
  owed_forbidden owes = record { same = rw (← owes.same) refl; whole = tt }

  -- what costs nothing that can be paid is forbidden
  pub owed_closed : (r : OverheadEnum) → Owes r → inf ≡ overhead_cost line r → Leaves None
  unfolding overhead_cost
  owed_closed Nothing owes costs = absurd (inf_not_fin costs)
  owed_closed (Lengthened n e) owes costs = absurd (inf_not_fin costs)
  owed_closed Penalised owes costs = absurd (inf_not_fin costs)
  owed_closed Forbidden owes costs = owed_forbidden owes

-- ---- one move

module _ (t : Tech) (view : View) (p : Place) (m : ℕ) where
  abbrev Steps : Option MadeStruct → Type 0
  Steps r = IsStepped t.grid view p r (step t view p m)

  -- a move that may enter nothing
  pub step_shut : entry_of t view p.vertex m ≡ None → Steps None
  unfolding step_of stepped_by WholeStep
  step_shut e = record { same = sym (step_entry t view p m ∙ ap (step_of t view p m) e); whole = tt }

  -- else what its kind asks of the segment
  pub step_open : {e : Entry} {r : Option MadeStruct} → entry_of t view p.vertex m ≡ Some e
      → IsStepped t.grid view p r (by_segment t view p (kind_of m) e.into e.price) → Steps r
  unfolding step_of
  step_open told by = record { same = by.same ∙ sym (step_entry t view p m ∙ ap (step_of t view p m) told); whole = by.whole }
