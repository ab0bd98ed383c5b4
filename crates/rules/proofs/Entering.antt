-- A move's price and the place that it leads to, by the vertex that it enters.
--     via_told, via_leaves       a via, and that it leaves the segment
--     step_entry                 a move is what its entry and its kind say
--     priced_shut                one that may enter nothing
--     priced_back, priced_along  a step along the track
--     priced_via                 a via, with what it owes
--     owed_told                  what it owes, from the code's form
--     entry_parts                an entry taken apart
use Prim.Native.Nat.{ℕ, ◌+◌}
use mathlib.Core.Path.{◌≡◌, refl, sym, ap, ◌∙◌}
use mathlib.Core.Bool.{Bool, true, false}
use native.Mathlib.Omega.{arith}
use Rattle.std.proofs.Common.{Option, Some, None}
use Rattle.job.specs.Structs.{layer_struct}
use Rattle.job.specs.declared.groups.Layer.{Layer as LayerStruct}
use Rattle.paths.specs.Systems.{blocked, to}
use Rattle.paths.specs.Costs.{Cost, fin, inf}
use Rattle.rules.specs.Tracks.{Entered, outside, at, entered}
use Rattle.rules.specs.Views.{View}
use Rattle.rules.specs.Segments.{Direction, Kind, along, down, up, kind_of, Segment, Place, back, grown, grow}
use Rattle.rules.specs.Prices.{Tech, line_of, entering}
use Rattle.rules.specs.Overheads.{Overhead, forbidden, owes, overhead_of}
use Rattle.rules.specs.Steps.{Stepped, illegal, leaving, stepping, by_segment, if_priced, into, step, priced}
use Rattle.rules.specs.Structs.{kind_by, Via, overhead_by, IsOverhead, overhead_cost, overhead_price, owed_cost, by_owed, entry_by, entry_at, entry_of}
use Rattle.rules.specs.declared.overhead.Overhead.{Overhead as OverheadEnum}
use Rattle.rules.specs.declared.overhead.Overhead.TheVariants.{Nothing, Lengthened, Penalised, Forbidden}
use Rattle.rules.specs.declared.segment.Direction.{Direction as DirectionEnum}
use Rattle.rules.specs.declared.track.Kind.{Kind as KindEnum}
use Rattle.rules.specs.declared.track.Kind.TheVariants.{Along, Down, Up}
use Rattle.rules.specs.declared.step.Entry.{Entry}

-- a move that does not go along the track is a via
pub via_told : (k : KindEnum) → ((d : DirectionEnum) → k ≡ Along d → ⊥) → Via (kind_by k)
unfolding Via kind_by
via_told (Along d) other = absurd (other d refl)
via_told Down other = tt
via_told Up other = tt

-- a via leaves the segment
pub via_leaves : (t : Tech) (view : View) (p : Place) (k : Kind) (w enter : ℕ) → Via k
    → by_segment t view p k w enter ≡ leaving w enter (overhead_of t view p.vertex p.segment)
unfolding Via by_segment
via_leaves t view p (along d) w enter none = absurd none
via_leaves t view p down w enter via = refl
via_leaves t view p up w enter via = refl

module _ (t : Tech) (view : View) (p : Place) (m : ℕ) where
  -- what may be entered, then what the kind asks of the segment
  unfoldable pub step_of : Option Entry → Stepped
  step_of None = illegal
  step_of (Some e) = by_segment t view p (kind_of m) e.into e.price

  -- a move is what its entry and its kind say
  pub step_entry : step t view p m ≡ step_of (entry_of t view p.vertex m)
  unfolding step into if_priced entry_of entry_at entry_by step_of
  step_entry = by (entered t.grid p.vertex m)
    where
      by_price : (w : ℕ) (x : Cost) → if_priced x (by_segment t view p (kind_of m) w) ≡ step_of (entry_by w x)
      by_price w inf = refl
      by_price w (fin n) = refl

      by_blocked : (w : ℕ) (b : Bool)
          → elim b [ true ↦ illegal | false ↦ if_priced (entering t view p.vertex w m) (by_segment t view p (kind_of m) w) ]
          ≡ step_of (elim b [ true ↦ None | false ↦ entry_by w (entering t view p.vertex w m) ])
      by_blocked w true = refl
      by_blocked w false = by_price w (entering t view p.vertex w m)

      by : (r : Entered) → into t view p m r ≡ step_of (entry_at t view p.vertex m r)
      by outside = refl
      by (at w) = by_blocked w (view.blocked w)

  -- a move that may enter nothing
  pub priced_shut : entry_of t view p.vertex m ≡ None → blocked ≡ priced (step t view p m)
  unfolding step_of priced
  priced_shut e = rw (step_entry, e) refl

  module _ {e : Entry} (opens : entry_of t view p.vertex m ≡ Some e) where
    module _ {d : Direction} (kind : kind_of m ≡ along d) {least : ℕ} (is : least ≡ (line_of t p.vertex).min_length) where
      -- a step against the one before it
      pub priced_back : grow least d p.segment ≡ back → blocked ≡ priced (step t view p m)
      unfolding step_of by_segment stepping priced
      priced_back against = rw (step_entry, opens, step_of, kind, by_segment, ← is, against) refl

      -- a step along the track
      pub priced_along : {s : Segment} → grow least d p.segment ≡ grown s → to e.price (record { vertex = e.into; segment = s }) ≡ priced (step t view p m)
      unfolding step_of by_segment stepping priced
      priced_along longer =
          let none : e.price + 0 ≡ e.price = omega arith in
          rw (step_entry, opens, step_of, kind, by_segment, ← is, longer, stepping, priced, none) refl

    -- a via
    pub priced-leaving : by_segment t view p (kind_of m) e.into e.price ≡ leaving e.into e.price (overhead_of t view p.vertex p.segment)
        → by_owed e.into e.price (owed_cost t view p) ≡ priced (step t view p m)
    unfolding step_of owed_cost by_owed overhead_price leaving priced
    priced-leaving is = rw (step_entry, opens, step_of, is) (by (overhead_of t view p.vertex p.segment))
      where
        by : (o : Overhead) → by_owed e.into e.price (overhead_price o) ≡ priced (leaving e.into e.price o)
        by forbidden = refl
        by (owes price laid added penalties) = refl

    pub priced_via : Via (kind_of m) → by_owed e.into e.price (owed_cost t view p) ≡ priced (step t view p m)
    priced_via via = priced-leaving (via_leaves t view p (kind_of m) e.into e.price via)

-- what a via owes, from the code's form
pub owed_told : (t : Tech) (view : View) (v : ℕ) {p : Place} {line : LayerStruct} (r : OverheadEnum) {o : Overhead} → line ≡ layer_struct (line_of t v)
    → IsOverhead (line_of t v).wire (line_of t v).area t.grid view p r o → overhead_cost line r ≡ overhead_price o
unfolding overhead_cost overhead_price overhead_by
owed_told t view v Nothing is told = rw (← told.same) refl
owed_told t view v (Lengthened n e) is told = rw (← told.same, is) refl
owed_told t view v Penalised is told = rw (← told.same, is) refl
owed_told t view v Forbidden is told = rw (← told.same) refl

-- the vertex that an entry names is entered, at the price of entering it
pub entry_parts : (t : Tech) (view : View) (v m : ℕ) {e : Entry} → entry_of t view v m ≡ Some e
    → (entered t.grid v m ≡ at e.into) × (entering t view v e.into m ≡ fin e.price)
unfolding entry_of entry_at entry_by
entry_parts t view v m {e} opens = by (entered t.grid v m) refl opens
  where
    no_entry : {A : Type 0} → ◌≡◌ {A = Option Entry} None (Some e) → A
    no_entry h = let z : ◌≡◌ {A = ℕ} 0 1 = cc in absurd (omega arith)

    by_price : (u : ℕ) → entered t.grid v m ≡ at u → (x : Cost) → entering t view v u m ≡ x → entry_by u x ≡ Some e
        → (entered t.grid v m ≡ at e.into) × (entering t view v e.into m ≡ fin e.price)
    by_price u into inf price is = no_entry is
    by_price u into (fin n) price is =
        let one : ◌≡◌ {A = Entry} (record { into = u; price = n }) e = cc in
        let same : u ≡ e.into = ap (λ (x : Entry). x.into) one in
        let paid : n ≡ e.price = ap (λ (x : Entry). x.price) one in
        (into ∙ ap at same, ap (λ (x : ℕ). entering t view v x m) (sym same) ∙ price ∙ ap fin paid)

    by_blocked : (u : ℕ) → entered t.grid v m ≡ at u → (b : Bool) → elim b [ true ↦ None | false ↦ entry_by u (entering t view v u m) ] ≡ Some e
        → (entered t.grid v m ≡ at e.into) × (entering t view v e.into m ≡ fin e.price)
    by_blocked u into true is = no_entry is
    by_blocked u into false is = by_price u into (entering t view v u m) refl is

    by : (r : Entered) → entered t.grid v m ≡ r → entry_at t view v m r ≡ Some e
        → (entered t.grid v m ≡ at e.into) × (entering t view v e.into m ≡ fin e.price)
    by outside into is = no_entry is
    by (at u) into is = by_blocked u into (view.blocked u) is
