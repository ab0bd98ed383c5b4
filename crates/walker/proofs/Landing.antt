-- What is known of a move that the code makes, and of the walk after it.
--     Lands, step_lands              a legal move leads to a good place, and lays vertices of the grid
--     MoveFits, made_fits            its numbers are small
--     made_entered                   what the code leaves in the arrays
--     MovesMade                      a walk of so many moves
--     made_none, made_one, made_all  of none, of one more, and that its numbers are small
use Prim.Native.Nat.{ℕ, suc, ◌+◌, ◌*◌, ◌^◌, ◌≤◌, ◌<◌}
use mathlib.Core.Path.{◌≡◌, refl, sym, ap, ◌∙◌}
use mathlib.Core.List.{List, [], ◌∷◌, ◌++◌}
use native.Mathlib.Omega.{arith}
use lib.ListN.{set}
use Rattle.job.specs.Lists.{All}
use Rattle.job.specs.Grid.{Grid, vertices}
use Rattle.job.specs.Structs.{grid_of}
use Rattle.rules.specs.Views.{View}
use Rattle.rules.specs.Segments.{Place}
use Rattle.rules.specs.Prices.{Tech}
use Rattle.rules.specs.Places.{GoodTech, GoodPlace, dearest_move}
use Rattle.rules.specs.Steps.{Made, legal, step, price_of, priced}
use Rattle.rules.specs.Walks.{start_at, total}
use Rattle.rules.specs.Structs.{segment_of, TechFits, tech_by, place_of, made_by, WholeMade}
use Rattle.rules.specs.declared.price.Tech.{Tech as TechStruct}
use Rattle.rules.specs.declared.step.Place.{Place as PlaceStruct}
use Rattle.rules.specs.declared.step.Made.{Made as MadeStruct}
use Rattle.rules.proofs.Places.{start_good}
use Rattle.rules.proofs.Laid.{Free, step_free}
use Rattle.rules.proofs.Moves.{step_keeps, step_limits, step_penalties}
use Rattle.metal.specs.Codes.{lay_all, extended}
use Rattle.metal.proofs.Runs.{extended-clear}
use Rattle.walker.specs.Entering.{enter_by, Gone, gone_at, gone_on}
use Rattle.walker.specs.Structs.{IsWalk, walk_from, walk_on, WalkFits}
use Rattle.walker.specs.declared.Walk.{Walk}
use Rattle.walker.proofs.Sums.{total_then}

-- a legal move from a good place leads to a vertex of the grid, and what it lays is of the grid
pub record Lands (t : Tech) (made : Made) : Type 0 where
  pub place : GoodPlace t made.next
  pub laid : All (λ v. v < vertices t.grid) made.laid

free_below : (g : Grid) (view : View) (vs : List ℕ) → All (Free g view) vs → All (λ v. v < vertices g) vs
unfolding All
free_below g view [] h = tt
free_below g view (v ∷ vs) h = (h.0.on_grid, free_below g view vs h.1)

pub step_lands : {t : Tech} (view : View) (p : Place) (m : ℕ) {made : Made} → GoodTech t → GoodPlace t p → step t view p m ≡ legal made → Lands t made
unfolding priced
step_lands {t} view p m good-t on e =
    record {
      place = step_keeps view p m good-t on (ap priced e);
      laid = free_below t.grid view _ (step_free t view p m on.vertex e);
    }

-- a move leads to a good place, and its numbers are small
pub record MoveFits (tech : TechStruct) (m : MadeStruct) : Type 0 where
  pub place : GoodPlace (tech_by tech) (place_of m.next)
  pub price : m.enter + m.over ≤ dearest_move
  pub added : m.added ≤ 15
  pub penalties : m.penalties ≤ 1

-- a walk of n moves has led to a good place, and its numbers are small
pub record MovesMade (tech : TechStruct) (n : ℕ) (walk : Walk) (gone : Gone) : Type 0 where
  pub is : IsWalk walk gone
  pub place : GoodPlace (tech_by tech) (place_of walk.place)
  pub cost : walk.cost ≤ dearest_move * n
  pub added : walk.added ≤ 15 * n
  pub penalties : walk.penalties ≤ n

module _ (tech : TechStruct) (view : View) (p : PlaceStruct) (number : ℕ) (m : MadeStruct)
    (is : step (tech_by tech) view (place_of p) number ≡ legal (made_by (grid_of tech.grid) view (place_of p) m))
    (whole : WholeMade (grid_of tech.grid) view (place_of p) m) where
  -- it leads to a good place, and its numbers are small
  pub made_fits : TechFits tech → GoodPlace (tech_by tech) (place_of p) → MoveFits tech m
  unfolding made_by priced
  made_fits fits on =
      record {
        place = (step_lands view (place_of p) number fits.good on is).place;
        price = step_limits view (place_of p) number fits.good on (ap priced is);
        added = omega (arith, whole.few);
        penalties = step_penalties (tech_by tech) view (place_of p) number is;
      }

  -- what the code leaves in the arrays is what the definition's move leaves
  pub made_entered : (net : ℕ) (spots codes : List ℕ) {more after : List ℕ} → more ≡ set spots m.next.vertex 1
      → after ≡ lay_all net (extended (grid_of tech.grid) (place_of p) m.extension ++ (m.next.vertex ∷ [])) codes
      → enter_by net (made_by (grid_of tech.grid) view (place_of p) m) (record { spots = spots; codes = codes }) ≡ record { spots = more; codes = after }
  unfolding made_by enter_by
  made_entered net spots codes {more} {after} put laid =
      let lays = extended-clear (grid_of tech.grid) view (place_of p) m.extension whole.whole in
      let codes-after = sym (laid ∙ ap (λ (vs : List ℕ). lay_all net (vs ++ (m.next.vertex ∷ [])) codes) lays) in
      λ i. record { spots = sym put i; codes = codes-after i }

-- of no moves
pub made_none : (tech : TechStruct) (start : ℕ) → start < vertices (grid_of tech.grid) → MovesMade tech 0 (walk_from start) (gone_at start)
unfolding walk_from gone_at total start_at segment_of tech_by
made_none tech start on =
    record {
      is = record { place = refl; cost = refl; added = refl; penalties = refl };
      place = start_good on;
      cost = omega arith;
      added = omega arith;
      penalties = omega arith;
    }

-- of one more
pub made_one : (tech : TechStruct) (view : View) {n : ℕ} {walk : Walk} {gone : Gone} (m : MadeStruct) → MovesMade tech n walk gone → MoveFits tech m
    → MovesMade tech (suc n) (walk_on walk m) (gone_on gone (made_by (grid_of tech.grid) view (place_of walk.place) m))
unfolding made_by gone_on walk_on
made_one tech view {n} m so_far new =
    record {
      is = record {
        place = refl;
        cost = ap (λ (c : ℕ). c + (m.enter + m.over)) so_far.is.cost ∙ sym (total_then (λ x. price_of x) _ _);
        added = ap (λ (c : ℕ). c + m.added) so_far.is.added ∙ sym (total_then (λ x. x.added) _ _);
        penalties = ap (λ (c : ℕ). c + m.penalties) so_far.is.penalties ∙ sym (total_then (λ x. x.penalties) _ _);
      };
      place = new.place;
      cost = omega (arith, so_far.cost, new.price);
      added = omega (arith, so_far.added, new.added);
      penalties = omega (arith, so_far.penalties, new.penalties);
    }

-- its numbers are small
pub made_all : {tech : TechStruct} {n : ℕ} {walk : Walk} {gone : Gone} → MovesMade tech n walk gone → n < 2 ^ 20 → WalkFits walk
made_all so_far few =
    record { cost = omega (arith, so_far.cost, few); added = omega (arith, so_far.added, few); penalties = omega (arith, so_far.penalties, few) }
