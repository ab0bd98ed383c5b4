-- Other nets' pins and obstacles, told by the occupants.
--     same_number                 the same vertex, by its number
--     pins_number, nets_number    a vertex among pins, by its number
--     apart_after                 where vertices are distinct, one of the first is none of the rest
--     own_free                    the net's own pins are on no obstacle
--     own_apart                   and no other net has them
--     others_all                  where the net's own pins are left out, another net's pin is any net's
--     blocked_occupant            a vertex is blocked where it has an occupant and none of the net's own pins
use Prim.Native.Nat.{ℕ}
use mathlib.Core.Path.{◌≡◌, refl, sym, ap, ◌∙◌}
use mathlib.Core.List.{List, [], ◌∷◌, ◌++◌, map}
use mathlib.Core.Bool.{Bool, true, false, ◌&&◌, ◌||◌, not, cond, or-true}
use lib.ListN.{length, get_or}
use lib.Dec.{T, eqb}
use borrow.Author.Tests.{eq-eqb, ne_eqb}
use Rattle.job.specs.Lists.{any, All}
use Rattle.job.specs.Grid.{Grid, Vertex, vertex_number, inside, same}
use Rattle.job.specs.Job.{Obstacle, Net}
use Rattle.job.specs.Good.{GoodPin, GoodNet, Distinct, all_pins}
use Rattle.job.specs.Reading.{on_obstacle}
use Rattle.job.proofs.Tests.{nor_holds}
use Rattle.job.proofs.Grids.{same_eq, same_refl, number_inj}
use Rattle.occupants.specs.Occupants.{occupant_of, Occupants}
use Rattle.occupants.proofs.Covering.{any_append}
use Rattle.reader.proofs.Loaded.{all_one}
use Rattle.rules.specs.Views.{member, others_hold, pins_of}
use Rattle.rules.proofs.Members.{not_both, neither}
use Rattle.rules.proofs.Standing.{fails, distinct_both}

-- the same vertex, by number
pub same_number : (g : Grid) (w p : Vertex) → T (inside g w) → T (inside g p) → same w p ≡ eqb (vertex_number g w) (vertex_number g p)
same_number g w p on h = by (same w p) refl
  where
    by : (b : Bool) → same w p ≡ b → b ≡ eqb (vertex_number g w) (vertex_number g p)
    by true e = sym (eq-eqb (vertex_number g w) (vertex_number g p) (ap (vertex_number g) (same_eq w p e)))
    by false e = sym (ne_eqb (vertex_number g w) (vertex_number g p) (λ q. not_both {b = same w p} (rw (number_inj g w p on h q) (same_refl p)) e))

module _ (g : Grid) (obstacles : List Obstacle) (w : Vertex) (on : T (inside g w)) where
  -- the vertex's number
  abbrev number : ℕ
  number = vertex_number g w

  -- ---- by number

  -- among good pins
  pins_number : (ps : List Vertex) → All (GoodPin g obstacles) ps → any (same w) ps ≡ member number (map (vertex_number g) ps)
  unfolding any All member
  pins_number [] good = refl
  pins_number (p ∷ ps) good = rw (same_number g w p on good.0.inside, pins_number ps good.1) refl

  -- among the pins of good nets
  nets_number : (nets : List Net) → All (GoodNet g obstacles) nets → any (same w) (all_pins nets) ≡ any (member number) (map (pins_of g) nets)
  unfolding any All all_pins pins_of
  nets_number [] good = refl
  nets_number (net ∷ nets) good =
      any_append (same w) net.pins (all_pins nets) ∙ rw (pins_number net.pins good.0.good_pins, nets_number nets good.1) refl

  -- ---- one of the net's own pins

  -- it is none of the pins that come after, where all are distinct
  apart_after : (xs ys : List Vertex) → Distinct (xs ++ ys) → any (same w) xs ≡ true → any (same w) ys ≡ false
  unfolding Distinct any
  apart_after [] ys d h = absurd (not_both h refl)
  apart_after (x ∷ xs) ys d h = by (same w x) refl h (apart_after xs ys d.1)
    where
      by : (b : Bool) → same w x ≡ b → (b || any (same w) xs) ≡ true → (any (same w) xs ≡ true → any (same w) ys ≡ false) → any (same w) ys ≡ false
      by true e k rest = rw (same_eq w x e) (fails (any (same x) ys) ((nor_holds (any (same x) xs) (any (same x) ys)).0 (rw (any_append (same x) xs ys) at d.0)).1)
      by false e k rest = rest k

  -- it is on no obstacle
  own_free : (ps : List Vertex) → All (GoodPin g obstacles) ps → any (same w) ps ≡ true → on_obstacle g obstacles w ≡ false
  unfolding any All
  own_free [] good h = absurd (not_both h refl)
  own_free (p ∷ ps) good h = by (same w p) refl h (own_free ps good.1)
    where
      by : (b : Bool) → same w p ≡ b → (b || any (same w) ps) ≡ true → (any (same w) ps ≡ true → on_obstacle g obstacles w ≡ false)
          → on_obstacle g obstacles w ≡ false
      by true e k rest = rw (same_eq w p e) (fails (on_obstacle g obstacles p) good.0.free)
      by false e k rest = rest k

  -- ---- the nets before and after

  module _ (net : Net) (after : List Net) where
    -- the nets, with the net at hand among them
    abbrev with : (before : List Net) → List Net
    with before = before ++ (net ∷ after)

    -- its pins are among all pins
    own_any : (before : List Net) → member number (pins_of g net) ≡ true → any (member number) (map (pins_of g) (with before)) ≡ true
    unfolding any
    own_any [] h = rw h refl
    own_any (b ∷ bs) h = rw (own_any bs h) (or-true (member number (pins_of g b)))

    -- no other net has them
    own_apart : (before : List Net) → All (GoodNet g obstacles) (with before) → Distinct (all_pins (with before)) → member number (pins_of g net) ≡ true
        → others_hold (length before) (map (pins_of g) (with before)) number ≡ false
    unfolding others_hold all_pins pins_of All
    own_apart [] good d h =
        sym (nets_number after good.1) ∙ apart_after net.pins (all_pins after) d (pins_number net.pins good.0.good_pins ∙ h)
    own_apart (b ∷ bs) good d h =
        neither (member number (pins_of g b)) (others_hold (length bs) (map (pins_of g) (with bs)) number) (by (any (same w) b.pins) refl)
        (own_apart bs good.1 (distinct_both b.pins (all_pins (with bs)) d).1 h)
      where
        later : any (same w) (all_pins (with bs)) ≡ true
        later = nets_number (with bs) good.1 ∙ own_any bs h

        by : (c : Bool) → any (same w) b.pins ≡ c → member number (pins_of g b) ≡ false
        by true e = absurd (not_both later (apart_after b.pins (all_pins (with bs)) d e))
        by false e = sym (pins_number b.pins good.0.good_pins) ∙ e

    -- a vertex that is none of them is another net's pin where it is any net's
    others_all : (before : List Net) → member number (pins_of g net) ≡ false
        → others_hold (length before) (map (pins_of g) (with before)) number ≡ any (member number) (map (pins_of g) (with before))
    unfolding others_hold any
    others_all [] h = rw h refl
    others_all (b ∷ bs) h = rw (others_all bs h) refl

    -- ---- blocked

    -- an occupant that is not 0 tells of an obstacle or a pin
    occupant_some : (a b : Bool) → not (eqb (cond a 1 (cond b 2 0)) 0) ≡ (a || b)
    occupant_some true b = refl
    occupant_some false true = refl
    occupant_some false false = refl

    -- "It may not enter an obstacle or another net's pin."
    pub blocked_occupant : (before : List Net) {occupants : List ℕ} → All (GoodNet g obstacles) (with before) → Distinct (all_pins (with before))
        → Occupants g obstacles (all_pins (with before)) occupants
        → (on_obstacle g obstacles w || others_hold (length before) (map (pins_of g) (with before)) number)
        ≡ (not (member number (pins_of g net)) && not (eqb (get_or occupants number 0) 0))
    unfolding occupant_of pins_of
    blocked_occupant before {occupants} good d occupied = by (member number (pins_of g net)) refl
      where
        mine : All (GoodPin g obstacles) net.pins
        mine = (all_one (GoodNet g obstacles) before net after good).good_pins

        by : (b : Bool) → member number (pins_of g net) ≡ b → (on_obstacle g obstacles w || others_hold (length before) (map (pins_of g) (with before)) number)
            ≡ (not b && not (eqb (get_or occupants number 0) 0))
        by true e = neither _ _ (own_free net.pins mine (pins_number net.pins mine ∙ e)) (own_apart before good d e)
        by false e =
            rw (others_all before e, ← nets_number (with before) good, occupied.says w on)
            (sym (occupant_some (on_obstacle g obstacles w) (any (same w) (all_pins (with before)))))
