-- What the code asks for a via from a settled place.
--     fresh_asked, _made, _here, _left, _small   the fresh place that it enters
--     price_small                                what it owes is small
use Prim.Native.Nat.{ℕ, ◌^◌, ◌≤◌, ◌<◌}
use mathlib.Core.Path.{◌≡◌, sym, ap, ◌∙◌}
use mathlib.Core.List.{List}
use Rattle.job.specs.Grid.{vertices}
use Rattle.job.specs.Structs.{grid_of, vertex_struct}
use Rattle.job.specs.declared.penalty.Penalty.{Penalty}
use Rattle.job.specs.declared.penalty.Penalty.TheVariants.{Price}
use Rattle.rules.specs.Tracks.{vertex_by, at, entered}
use Rattle.rules.specs.Views.{View}
use Rattle.rules.specs.Joins.{places}
use Rattle.rules.specs.Places.{code_by, GoodSegment, GoodPlace}
use Rattle.rules.specs.Structs.{segment_of, tech_by, cost_of, owed_cost, place_of}
use Rattle.rules.specs.declared.price.Prices.{Prices}
use Rattle.rules.specs.declared.segment.Segment.TheVariants.{Fresh}
use Rattle.rules.specs.declared.step.Place.{Place as PlaceStruct}
use Rattle.rules.proofs.Neighbours.{entered_below}
use Rattle.rules.proofs.Segments.{owed_fits}
use Rattle.bounds.specs.Bounds.{bound_at, SmallBounds}
use Rattle.search.specs.Fronts.{left_at}
use Rattle.search.specs.Tries.{AtPlace, fresh_code}
use Rattle.search.specs.declared.settled.Settled.{Settled}
use Rattle.search.proofs.Costing.{left_place, told_small}
use Rattle.search.proofs.Asking.{vertex_on, code_asked, code_made, code_here}

module _ {p : Prices} {settled : Settled} (at_place : AtPlace p settled) where
  -- ---- the fresh place that a via enters

  module _ (number : ℕ) {into : ℕ} (enters : entered (grid_of p.tech.grid) settled.place.vertex number ≡ at into) where
    abbrev fresh_place : PlaceStruct
    fresh_place = record { vertex = into; segment = Fresh }

    fresh_on : GoodPlace (tech_by p.tech) (place_of fresh_place)
    unfolding tech_by segment_of GoodSegment
    fresh_on =
        record {
          vertex = entered_below (grid_of p.tech.grid) number (vertex_on p.fits settled.place at_place.good).there enters;
          segment = tt;
        }

    -- what its number is asked for
    pub fresh_asked : (1 ≤ p.tech.largest) × (p.tech.largest ≤ 15) × (into < 16384) × GoodSegment p.tech.largest (segment_of Fresh)
    fresh_asked = code_asked p.fits fresh_place fresh_on

    module _ {code : ℕ} (made : code ≡ code_by p.tech.largest (place_of fresh_place)) where
      -- its number
      pub fresh_made : code ≡ fresh_code (tech_by p.tech) into
      unfolding fresh_code segment_of
      fresh_made = code_made p.fits fresh_place fresh_on made

      -- it is in the work slice
      pub fresh_here : {n : ℕ} → places (tech_by p.tech) ≤ n → code < n
      fresh_here room = code_here p.fits fresh_place fresh_on made room

    module _ (bounds : List ℕ) {left : ℕ}
        (told : (v w : ℕ) → v < vertices (grid_of p.tech.grid) → settled.vertex ≡ vertex_struct (vertex_by (grid_of p.tech.grid) v)
        → entered (grid_of p.tech.grid) v number ≡ at w → left ≡ bound_at (grid_of p.tech.grid) bounds w) where
      left_there : left ≡ bound_at (grid_of p.tech.grid) bounds into
      left_there = told settled.place.vertex into (vertex_on p.fits settled.place at_place.good).there at_place.is enters

      -- what is left from it
      pub fresh_left : left ≡ left_at (tech_by p.tech) bounds (fresh_code (tech_by p.tech) into)
      unfolding tech_by fresh_code segment_of
      fresh_left = left_there ∙ sym (left_place p.fits.good bounds fresh_on)

      -- it is small
      pub fresh_small : SmallBounds bounds → left ≤ 2 ^ 24
      fresh_small small = told_small (grid_of p.tech.grid) bounds into small left_there

  -- ---- what a via owes

  -- once it is told, it is small
  pub price_small : (view : View) {owed : Penalty} → cost_of owed ≡ owed_cost (tech_by p.tech) view (place_of settled.place)
      → {n : ℕ} → owed ≡ Price n → n ≤ 65534
  unfolding cost_of
  price_small view told is = owed_fits view (place_of settled.place) p.fits.good at_place.good.vertex (sym told ∙ ap cost_of is)
