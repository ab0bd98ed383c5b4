-- The bytes make the view of the net at hand.
--     byte_at                              the byte of a vertex
--     blocked_at, taken_at, guided_at      what it says is what the net sees
--     seen_view                            so the bytes' view is the net's
use Prim.Native.Nat.{ℕ, suc, ◌≤◌, ◌<◌}
use mathlib.Core.Path.{◌≡◌, refl, sym, ap, ◌∙◌}
use mathlib.Core.List.{List, [], ◌∷◌, ◌++◌, map}
use mathlib.Core.Bool.{Bool, true, false, ◌&&◌, ◌||◌, not, cond, and-true, not-not}
use native.Mathlib.Omega.{arith}
use lib.ListN.{length, get_or, take, length-append}
use lib.Dec.{ltb, eqb}
use borrow.Author.Tests.{ltb-true, ne_eqb}
use Rattle.job.specs.Grid.{Grid, vertices}
use Rattle.job.specs.Job.{Box, Net, Job}
use Rattle.job.specs.Reading.{on_obstacle}
use Rattle.job.proofs.Grids.{below_inside}
use Rattle.rules.specs.Tracks.{vertex_by}
use Rattle.rules.specs.Views.{member, others_hold, in_guide, pins_of, boxes_of, view_of}
use Rattle.rules.specs.Seen.{holds, view_by}
use Rattle.rules.proofs.Members.{not_both}
use Rattle.rules.proofs.Vertices.{number_vertex, vertex_below}
use Rattle.views.specs.Sight.{boxes_in, taken_code, seen_byte, NetAtHand, sight_of, opened}
use Rattle.views.proofs.Flags.{byte_holds, byte_opened}
use Rattle.views.proofs.Opening.{opened_at}
use Rattle.views.proofs.Codes.{taken_code_lem}
use Rattle.views.proofs.Pins.{blocked_occupant}

-- the boxes of the net after some nets
boxes_of_lem : (before : List Net) (net : Net) (after : List Net) → boxes_of (length before) (before ++ (net ∷ after)) ≡ net.boxes
unfolding boxes_of
boxes_of_lem [] net after = refl
boxes_of_lem (b ∷ bs) net after = boxes_of_lem bs net after

-- tests that agree below a number, and hold from it on
agree_or : (v n : ℕ) {a b : Bool} → (v < n → a ≡ b) → (not (ltb v n) || a) ≡ (not (ltb v n) || b)
agree_or v n {a} {b} h = by (ltb v n) refl
  where
    by : (c : Bool) → ltb v n ≡ c → (not c || a) ≡ (not c || b)
    by true e = h (ltb-true v n e)
    by false e = refl

-- tests that agree below a number, and fail from it on
agree_and : (v n : ℕ) {a b : Bool} → (v < n → a ≡ b) → (ltb v n && a) ≡ (ltb v n && b)
agree_and v n {a} {b} h = by (ltb v n) refl
  where
    by : (c : Bool) → ltb v n ≡ c → (c && a) ≡ (c && b)
    by true e = h (ltb-true v n e)
    by false e = refl

module _ {j : Job} {k : ℕ} {metal : List (List ℕ)} {occupants codes pins boxes : List ℕ} {pinCount boxCount : ℕ}
    (hand : NetAtHand j k metal occupants codes pins boxes pinCount boxCount) (made : List ℕ)
    (sights : (v : ℕ) → v < vertices j.grid → get_or made v 0 ≡ sight_of j.grid occupants codes (boxes_in boxes 0 boxCount) v)
    (long : vertices j.grid ≤ length made) where
  -- the bytes, with the net's own pins open
  abbrev bytes : List ℕ
  bytes = opened (suc k) codes (take pinCount pins) made

  module _ (v : ℕ) (on : v < vertices j.grid) where
    -- whether the vertex is one of the net's own pins, has an occupant, has another net's code, lies outside
    -- the guide
    abbrev own : Bool
    own = member v (pins_of j.grid hand.net)

    abbrev occupied : Bool
    occupied = not (eqb (get_or occupants v 0) 0)

    abbrev taken : Bool
    taken = taken_code (suc k) (get_or codes v 0)

    abbrev outside : Bool
    outside = not (in_guide hand.net.boxes (vertex_by j.grid v))

    -- the byte of the vertex
    byte_at : get_or bytes v 0 ≡ seen_byte (not own && occupied) taken outside
    unfolding sight_of taken_code
    byte_at =
        opened_at (suc k) codes (take pinCount pins) made v (omega (arith, on, long))
        ∙ rw (sights v on, hand.own_pins, hand.own_boxes) (byte_opened (suc k) (get_or codes v 0) own occupied (not (eqb (get_or codes v 0) 0)) outside)
        ∙ ap (λ (b : Bool). seen_byte (not own && occupied) b outside) (by own refl)
      where
        by : (b : Bool) → own ≡ b → cond b (taken_code (suc k) (get_or codes v 0)) (not (eqb (get_or codes v 0) 0)) ≡ taken
        by true e = refl
        by false e = rw (ne_eqb (get_or codes v 0) (suc k) (λ f. not_both (hand.fresh v on f) e)) (sym (and-true (not (eqb (get_or codes v 0) 0))))

    -- blocked: an obstacle or another net's pin
    blocked_at : holds 1 (get_or bytes v 0)
        ≡ (on_obstacle j.grid j.obstacles (vertex_by j.grid v) || others_hold k (map (pins_of j.grid) j.nets) v)
    blocked_at =
        let in-grid = below_inside j.grid (vertex_by j.grid v) (vertex_below j.grid on) in
        let told = blocked_occupant j.grid j.obstacles (vertex_by j.grid v) in-grid hand.net hand.after hand.before
        (rw hand.nets at hand.job.good_nets) (rw hand.nets at hand.job.distinct_pins) (rw hand.nets at hand.occupied) in
        ap (holds 1) byte_at ∙ (byte_holds (not own && occupied) taken outside).0 ∙ sym (rw (← hand.nets, hand.index, number_vertex j.grid v) at told)

    -- taken: another net's metal
    taken_at : holds 2 (get_or bytes v 0) ≡ others_hold k metal v
    taken_at =
        let nets = ap length hand.nets ∙ length-append hand.before (hand.net ∷ hand.after) in
        let few : length metal ≤ 255 = omega (arith, hand.metals, hand.job.nets) in
        let known : k < length metal = omega (arith, hand.metals, nets, hand.index) in
        ap (holds 2) byte_at ∙ (byte_holds (not own && occupied) taken outside).1 ∙ ap (taken_code (suc k)) (hand.coded v on) ∙ sym (taken_code_lem metal k v known few)

    -- in the guide
    guided_at : not (holds 4 (get_or bytes v 0)) ≡ in_guide (boxes_of k j.nets) (vertex_by j.grid v)
    guided_at =
        let boxes = ap (boxes_of k) hand.nets ∙ (rw hand.index at (boxes_of_lem hand.before hand.net hand.after)) in
        ap (λ (b : ℕ). not (holds 4 b)) byte_at ∙ ap not (byte_holds (not own && occupied) taken outside).2 ∙ not-not _
        ∙ ap (λ (bs : List Box). in_guide bs (vertex_by j.grid v)) (sym boxes)

  -- so the bytes' view is the net's
  view_made : view_by j.grid bytes ≡ view_of j k metal
  unfolding view_by view_of
  view_made =
      λ i. record {
        blocked = λ v. agree_or v (vertices j.grid) (blocked_at v) i;
        taken = λ v. agree_and v (vertices j.grid) (taken_at v) i;
        guided = λ v. agree_and v (vertices j.grid) (guided_at v) i;
      }

-- the bytes that the code has made
pub seen_view : {g : Grid} {n : ℕ} {j : Job} {k : ℕ} {metal : List (List ℕ)} {occupants codes pins boxes seen : List ℕ}
    {pinCount boxCount : ℕ} (made : List ℕ)
    → ((v : ℕ) → v < vertices g → get_or made v 0 ≡ sight_of g occupants codes (boxes_in boxes 0 boxCount) v) → vertices g ≤ length made
    → seen ≡ opened n codes (take pinCount pins) made → g ≡ j.grid → n ≡ suc k → NetAtHand j k metal occupants codes pins boxes pinCount boxCount → view_by g seen ≡ view_of j k metal
seen_view made sights long opens grid number hand = rw (opens, grid, number) (view_made hand made (rw grid at sights) (rw grid at long))
