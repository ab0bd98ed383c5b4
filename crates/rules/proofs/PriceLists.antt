-- What the prices of a job tell.
--     line_told                    the line of a layer is the layer line of its vertices
--     base_told, above_first       the wire price or the via price; a via down leaves no lowest layer
--     charged                      a penalty that the code has read
--     extra_told                   what a byte of flags adds: closed where the vertex is blocked
--     entry_outside, entry_shut    a move that enters no vertex
--     into_below, base_asked       the vertex that is entered, and the line that prices the move
--     entry_open, entry_fits       the entry with its price, which fits a word
use Prim.Native.Nat.{ℕ, zero, suc, ◌+◌, ◌-◌, ◌/◌, ◌%◌, ◌≤◌, ◌<◌}
use mathlib.Core.Path.{◌≡◌, refl, sym, ap, ◌∙◌}
use mathlib.Core.List.{List}
use mathlib.Core.Bool.{Bool, true, false, not, ◌||◌, cond}
use native.Mathlib.Omega.{arith}
use Rattle.std.proofs.Common.{Option, Some, None}
use lib.ListN.{get_or}
use lib.Dec.{eqb}
use Rattle.job.specs.Grid.{Grid, vertices}
use Rattle.job.specs.Job.{closed_price}
use Rattle.job.specs.Structs.{grid_of, layer_struct, penalty_of}
use Rattle.job.specs.declared.groups.Layer.{Layer as LayerStruct}
use Rattle.job.specs.declared.penalty.Penalty.{Penalty}
use Rattle.job.specs.declared.grid.Vertex.{Vertex as VertexStruct}
use Rattle.paths.specs.Costs.{Cost, fin, inf, plus}
use Rattle.rules.specs.Tracks.{layer_of, outside, at, entered}
use Rattle.rules.specs.Views.{View}
use Rattle.rules.specs.Segments.{Kind, down, kind_of}
use Rattle.rules.specs.Prices.{Tech, line_of, charge, penalty, closing, base, guide_at, short_at, sum_cost, entering}
use Rattle.rules.specs.Places.{dearest_entry}
use Rattle.rules.specs.PriceLists.{base_in, outside_field, extra_field, extra_in, Priced}
use Rattle.rules.specs.Seen.{holds, view_by}
use Rattle.rules.specs.Structs.{line_at, tech_by, TechFits, cost_of, seen_by, entry_by, entry_at, entry_of}
use Rattle.rules.specs.Charging.{Here}
use Rattle.rules.specs.declared.step.Entry.{Entry}
use Rattle.rules.specs.declared.price.Prices.{Prices}
use Rattle.rules.specs.declared.price.Tech.{Tech as TechStruct}
use Rattle.rules.proofs.Fitting.{fits as layer_fits}
use Rattle.rules.proofs.Neighbours.{low_enters, high_enters, down_enters, entered_below}
use Rattle.rules.proofs.Prices.{one_penalty, entering_fits}
use Rattle.rules.proofs.Held.{seen_blocked, seen_taken, seen_outside, on_grid_lem, line_held, from_cost}

-- ---- the lines

-- the line of a vertex's layer is its layer line
pub line_told : {p : Prices} {v : ℕ} {from : VertexStruct} → Here p v from
    → line_at p.tech.layers from.layer ≡ layer_struct (line_of (tech_by p.tech) v)
line_told {p} here = ap (λ (x : VertexStruct). line_at p.tech.layers x.layer) here.is ∙ line_held p.fits here.there

-- a via down leaves no lowest layer
pub above_first : (g : Grid) {v w : ℕ} (m : ℕ) → v < vertices g → entered g v m ≡ at w → kind_of m ≡ down → 0 < layer_of g v
unfolding kind_of
above_first g zero h e k = let z : ◌≡◌ {A = ℕ} 0 1 = cc in omega arith
above_first g (suc zero) h e k = let z : ◌≡◌ {A = ℕ} 0 1 = cc in omega arith
above_first g (suc (suc zero)) h e k = omega (arith, (down_enters g h e).layer)
above_first g (suc (suc (suc m))) h e k = let z : ◌≡◌ {A = ℕ} 0 1 = cc in omega arith

-- the wire price of the vertex that is entered, or the via price of the lower one
pub base_told : {t : TechStruct} {v w : ℕ} (m : ℕ) → TechFits t → v < vertices (grid_of t.grid) → entered (grid_of t.grid) v m ≡ at w
    → base_in t.layers (layer_of (grid_of t.grid) v) (kind_of m) ≡ base (tech_by t) v w m
unfolding base_in base kind_of entered
base_told {t} zero fits h e =
    let one = low_enters (grid_of t.grid) h e in
    ap (λ (l : ℕ). (line_at t.layers l).wire) one.layer ∙ ap (λ (l : LayerStruct). l.wire) (line_held fits one.lower)
base_told {t} (suc zero) fits h e =
    let one = high_enters (grid_of t.grid) h e in
    ap (λ (l : ℕ). (line_at t.layers l).wire) (sym one.layer) ∙ ap (λ (l : LayerStruct). l.wire) (line_held fits one.upper)
base_told {t} {v} {w} (suc (suc zero)) fits h e =
    let one = down_enters (grid_of t.grid) h e in
    let layer : layer_of (grid_of t.grid) v - 1 ≡ layer_of (grid_of t.grid) w = omega (arith, one.layer) in
    ap (λ (l : ℕ). (line_at t.layers l).via) layer ∙ ap (λ (l : LayerStruct). l.via) (line_held fits one.lower)
base_told (suc (suc (suc m))) fits h e = ap (λ (l : LayerStruct). l.via) (line_held fits h)

-- ---- the flags

-- a penalty that the code has read from its field is what that charges
pub charged : (field : ℕ) {read told : Penalty} → read ≡ penalty_of field → read ≡ told → charge field ≡ cost_of told
charged field is e = sym (from_cost field) ∙ ap cost_of (sym is ∙ e)

-- a field that holds a penalty where it applies charges that penalty
charge_if : (applies : Bool) (p : ℕ) → charge (cond applies p 0) ≡ penalty applies p
unfolding charge penalty
charge_if true p = refl
charge_if false p = refl

-- what is added by what is so of a vertex: the penalty that applies, closed where it is blocked
added : (blocked out taken : Bool) (guide short : ℕ) → Cost
added blocked out taken guide short =
    elim blocked [ true ↦ inf | false ↦ sum_cost (cond taken (closing (penalty out guide)) (penalty out guide)) (penalty taken short) ]

-- the field of a byte charges that
field_charges : (blocked out taken : Bool) (guide short : ℕ)
    → charge (cond (blocked || eqb (cond out guide 0) closed_price) closed_price (cond taken short (cond out guide 0)))
    ≡ added blocked out taken guide short
unfolding added charge
field_charges true out taken guide short = refl
field_charges false out taken guide short = rw (one_penalty taken (penalty out guide) short, ← charge_if out guide) (by (eqb field closed_price) refl taken)
  where
    field : ℕ
    field = cond out guide 0

    by : (closed : Bool) → eqb field closed_price ≡ closed → (taken : Bool)
        → charge (cond closed closed_price (cond taken short field))
        ≡ elim (cond closed inf (fin field)) [ fin n ↦ cond taken (charge short) (fin n) | inf ↦ inf ]
    by true e taken = refl
    by false e true = refl
    by false e false = rw e refl

-- the flags of a byte are its lowest three bits, which are those of its rest by 8
flags_rest : (byte : ℕ) → (byte % 8 / 1 % 2 ≡ byte / 1 % 2) × (byte % 8 / 2 % 2 ≡ byte / 2 % 2) × (byte % 8 / 4 % 2 ≡ byte / 4 % 2)
flags_rest byte = (omega arith, omega arith, omega arith)

-- the penalty of a byte is that of its flags
extra_in_lem : {guide short : ℕ} {extras : List ℕ} → Priced guide short extras → (byte : ℕ) → get_or extras (byte % 8) 0 ≡ extra_field guide short byte
unfolding extra_field outside_field holds
extra_in_lem priced byte =
    priced.each (byte % 8) (omega arith) ∙ rw ((flags_rest byte).0, (flags_rest byte).1, (flags_rest byte).2) refl

-- what the byte of a vertex adds: the penalty that applies there, and closed where it is blocked
pub extra_told : (t : TechStruct) {extras : List ℕ} → Priced t.guide t.short extras → (seen : List ℕ) {w : ℕ} → w < vertices (grid_of t.grid)
    → extra_in extras (get_or seen w 0)
    ≡ elim ((view_by (grid_of t.grid) seen).blocked w) [
      | true ↦ inf
      | false ↦ sum_cost (guide_at (tech_by t) (view_by (grid_of t.grid) seen) w) (short_at (tech_by t) (view_by (grid_of t.grid) seen) w)
    ]
unfolding extra_in extra_field outside_field guide_at short_at added tech_by
extra_told t priced seen {w} h =
    let byte = get_or seen w 0 in
    let is : added (holds 1 byte) (holds 4 byte) (holds 2 byte) (tech_by t).guide (tech_by t).short
    ≡ added (view.blocked w) (not (view.guided w)) (view.taken w) (tech_by t).guide (tech_by t).short =
    same_added (sym (seen_blocked _ seen w h)) (sym (seen_outside _ seen w h)) (sym (seen_taken _ seen w h)) in
    rw (extra_in_lem priced byte) (field_charges (holds 1 byte) (holds 4 byte) (holds 2 byte) (tech_by t).guide (tech_by t).short ∙ is)
  where
    view : View
    view = view_by (grid_of t.grid) seen

    same_added : {b b' o o' k k' : Bool} → b ≡ b' → o ≡ o' → k ≡ k'
        → added b o k (tech_by t).guide (tech_by t).short ≡ added b' o' k' (tech_by t).guide (tech_by t).short
    same_added p q r = λ i. added (p i) (q i) (r i) (tech_by t).guide (tech_by t).short

-- ---- the vertex that a move enters

-- a price for a byte of flags says that the vertex is not blocked, and what its penalties come to
unblocked : (blocked : Bool) (c : Cost) {extra : ℕ} → fin extra ≡ elim blocked [ true ↦ inf | false ↦ c ] → (blocked ≡ false) × (c ≡ fin extra)
unblocked true c e = (cc, cc)
unblocked false c e = (refl, sym e)

-- a closed one, that it is blocked or a penalty is closed
closed_entry : (blocked : Bool) (c : Cost) (b w : ℕ) → inf ≡ elim blocked [ true ↦ inf | false ↦ c ]
    → ◌≡◌ {A = Option Entry} (elim blocked [ true ↦ None | false ↦ entry_by w (plus b c) ]) None
unfolding entry_by
closed_entry true c b w e = refl
closed_entry false c b w e = rw (sym e) refl

-- no vertex out of the grid
pub entry_outside : (t : Tech) (view : View) (v m : ℕ) → entered t.grid v m ≡ outside → None ≡ entry_of t view v m
unfolding entry_of entry_at
entry_outside t view v m e = rw e refl

module _ {p : Prices} {v w : ℕ} {from : VertexStruct} (seen : List ℕ) (m : ℕ) (here : Here p v from)
    (e : entered (grid_of p.tech.grid) v m ≡ at w) where
  -- the vertex that is entered is of the grid
  pub into_below : w < vertices (grid_of p.tech.grid)
  into_below = entered_below (grid_of p.tech.grid) m here.there e

  -- none where what its byte adds is closed
  pub entry_shut : extra_in p.extras (get_or seen w 0) ≡ inf → None ≡ entry_of (tech_by p.tech) (seen_by p.tech seen) v m
  unfolding entry_of entry_at entering tech_by
  entry_shut closed =
      let view = seen_by p.tech seen in
      let told = sym closed ∙ extra_told p.tech p.priced seen into_below in
      let sum = sum_cost (guide_at (tech_by p.tech) view w) (short_at (tech_by p.tech) view w) in
      rw (e, entry_at) (sym (closed_entry (view.blocked w) sum (base (tech_by p.tech) v w m) w told))

  module _ {kind : Kind} (is : kind ≡ kind_of m) where
    -- the list has the line that prices the move
    pub base_asked : (from.layer < 8) × (kind ≡ down → 0 < from.layer)
    base_asked =
        let layer : from.layer ≡ layer_of (grid_of p.tech.grid) v = ap (λ (x : VertexStruct). x.layer) here.is in (
          rw layer (layer_fits _ _ (on_grid_lem p.fits here.there)).layer,
          λ k. rw layer (above_first (grid_of p.tech.grid) m here.there e (sym is ∙ k)),
        )

    module _ {extra b : ℕ} (adds : extra_in p.extras (get_or seen w 0) ≡ fin extra) (price : b ≡ base_in p.tech.layers from.layer kind) where
      -- where the byte adds a price, the vertex is not blocked and is entered at the sum
      entering_told : ((seen_by p.tech seen).blocked w ≡ false) × (entering (tech_by p.tech) (seen_by p.tech seen) v w m ≡ fin (b + extra))
      unfolding entering
      entering_told =
          let view = seen_by p.tech seen in
          let sum = sum_cost (guide_at (tech_by p.tech) view w) (short_at (tech_by p.tech) view w) in
          let (clear, adding) = unblocked (view.blocked w) sum (sym adds ∙ extra_told p.tech p.priced seen into_below) in
          let based : b ≡ base (tech_by p.tech) v w m =
          price ∙ rw (here.is, is) (base_told m p.fits here.there e) in
          (clear, rw (adding, based) refl)

      -- which is the entry
      pub entry_open : Some (record { into = w; price = b + extra }) ≡ entry_of (tech_by p.tech) (seen_by p.tech seen) v m
      unfolding entry_of entry_at entry_by tech_by
      entry_open = let (clear, enter) = entering_told in rw (e, entry_at, clear, enter) refl

      -- and fits a word
      pub entry_fits : b + extra ≤ dearest_entry
      unfolding tech_by
      entry_fits = (entering_fits (seen_by p.tech seen) m p.fits.good here.there e entering_told.1).1
