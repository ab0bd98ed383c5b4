-- Reading the moves of a join: good exactly where their bits stand there, they walk, and the last is the
-- first to enter an unjoined pin.
--     field-placed          a field stands there and fits, where it is whole and holds its number
--     agree_holds           two tests agree
--     judged_good           a move that is judged good
--     MovesAt               the bits, the number, the walk and the route of moves that were read
--     moves_good            moves that are read as good
--     route_some            a route has a move
--     route_read            the moves of a route are read as good
use Prim.Native.Nat.{ℕ, zero, suc, ◌+◌, ◌^◌, ◌≤◌, ◌<◌}
use native.Mathlib.Nat.{add-zero}
use native.Mathlib.Omega.{arith}
use mathlib.Core.Path.{◌≡◌, refl, sym, ap, subst, ◌∙◌}
use mathlib.Core.Logic.{◌↔◌}
use mathlib.Core.List.{List, [], ◌∷◌, flat_map}
use mathlib.Core.Bool.{Bool, true, false, cond, not}
use lib.ListN.{length, drop}
use borrow.Author.Tests.{ne_eqb}
use lib.Dec.{T, eqb, leb→le, le→leb}
use Rattle.bits.specs.Bits.{field, whole, field_bits}
use Rattle.bits.specs.Puts.{AllBelow}
use Rattle.bits.proofs.Laws.{length-field_bits, field_below, field_split, field_here}
use Rattle.job.specs.Reading.{good}
use Rattle.job.proofs.Binds.{steps}
use Rattle.job.proofs.TwoWay.Places.{Placed, placed, placed_nil, placed-append, placed-whole}
use Rattle.paths.specs.Systems.{Legal}
use Rattle.paths.specs.Rivals.{Route as RouteFrom}
use Rattle.rules.specs.Views.{View, member}
use Rattle.rules.specs.Segments.{Place}
use Rattle.rules.specs.Prices.{Tech}
use Rattle.rules.specs.Steps.{Made, Stepped, illegal, legal, step, price_of, priced}
use Rattle.rules.specs.Walks.{system, walked, walk, total, walk_cost}
use Rattle.rules.proofs.Members.{not_both}
use Rattle.rules.proofs.Walks.{walk_on_lem, walk_first}
use Rattle.plan.specs.Reading.{Moved, with_move, judged, read_moves}

-- ---- a field

-- a field stands there and fits, where it is whole and holds its number
pub field-placed : (B : List ℕ) (at : ℕ) → AllBelow 2 B → (w v : ℕ) → 0 < w
    → (Placed B at (field_bits w v) × (v < 2 ^ w)) ↔ (T (whole B at w) × (field B at w ≡ v))
unfolding whole Placed
field-placed B at bits w v some = (read, write)
  where
    read : Placed B at (field_bits w v) × (v < 2 ^ w) → T (whole B at w) × (field B at w ≡ v)
    read h =
        let there : at + length (field_bits w v) ≤ length B = placed-whole B at (field_bits w v) (omega (arith, length-field_bits w v)) h.0 in
        (le→leb (at + w) (length B) (omega (arith, length-field_bits w v)), field_here B _ at w v h.1 h.0)

    write : T (whole B at w) × (field B at w ≡ v) → Placed B at (field_bits w v) × (v < 2 ^ w)
    write (h, e) =
        let first = rw e at (field_split B at w bits (leb→le (at + w) (length B) h)) in
        (placed B at (field_bits w v) (drop (at + w) B) first, rw e at (field_below B at w bits))

-- ---- one move

-- more than none
no_more : (n : ℕ) → 1 ≤ n → eqb n 0 ≡ false
no_more n some = ne_eqb n 0 (λ e. omega arith)

-- two tests agree
agree_holds : (a b : Bool) → T (cond a b (not b)) ↔ (a ≡ b)
agree_holds true true = (λ h. refl, λ e. tt)
agree_holds true false = (λ h. absurd h, λ e. absurd (not_both {b = true} refl e))
agree_holds false true = (λ h. absurd h, λ e. absurd (not_both {b = false} e refl))
agree_holds false false = (λ h. refl, λ e. tt)

-- a move is judged good where it is legal and enters an unjoined pin just if it is the last
pub judged_good : (at : ℕ) (last : Bool) (unjoined : List ℕ) (s : Stepped) (made : Made)
    → (judged at last unjoined s ≡ good made) ↔ ((s ≡ legal made) × (member made.next.vertex unjoined ≡ last))
unfolding judged
judged_good at last unjoined illegal made = (
  λ e. let z : ◌≡◌ {A = ℕ} 0 1 = cc in absurd (omega arith),
  λ (e, h). let z : ◌≡◌ {A = ℕ} 0 1 = cc in absurd (omega arith),
)
judged_good at last unjoined (legal m) made =
    simp (steps, agree_holds) (λ (h, e). (ap legal e, rw e at h), λ (e, h). let same : m ≡ made = cc in (rw same h, same))

-- ---- all moves

-- the bits of moves stand there, they are so many, they walk from p, and they are a route
pub record MovesAt (B : List ℕ) (t : Tech) (view : View) (unjoined : List ℕ) (n at : ℕ) (p : Place) (moved : Moved) : Type 0 where
  pub stand : Placed B at (flat_map (field_bits 2) moved.moves)
  pub count : length moved.moves ≡ n
  pub walks : walk t view p moved.moves ≡ walked moved.last moved.made
  pub route : 1 ≤ n → RouteFrom (system t view unjoined) p moved.moves (walk_cost moved.made)

module _ (B : List ℕ) (bits : AllBelow 2 B) (t : Tech) (view : View) (unjoined : List ℕ) where
  -- one move and the rest
  more_read : (n at : ℕ) (p : Place) (moved : Moved) → (read_moves B t view unjoined (suc n) at p ≡ good moved)
      ↔ (T (whole B at 2) × ((made : Made)
      × ((step t view p (field B at 2) ≡ legal made) × (member made.next.vertex unjoined ≡ eqb n 0))
      × ((rest : Moved) × (read_moves B t view unjoined n (at + 2) made.next ≡ good rest) × (with_move (field B at 2) made rest ≡ moved))))
  unfolding read_moves
  more_read n at p moved = simp (steps, judged_good) (λ h. h, λ h. h)

  -- a move is one of the four and leads on
  leads : (at : ℕ) (p : Place) (m : ℕ) (made : Made) → m < 4 → step t view p m ≡ legal made
      → Legal (system t view unjoined) p m (price_of made) made.next
  unfolding priced
  leads at p m made small is = record { known = small; leads = rw is }

  -- the route of moves that are read
  route_of : (n at : ℕ) (p : Place) (m : ℕ) (made : Made) (rest : Moved) → m < 4 → step t view p m ≡ legal made
      → member made.next.vertex unjoined ≡ eqb n 0 → read_moves B t view unjoined n (at + 2) made.next ≡ good rest
      → MovesAt B t view unjoined n (at + 2) made.next rest
      → RouteFrom (system t view unjoined) p (m ∷ rest.moves) (price_of made + walk_cost rest.made)
  unfolding read_moves total
  route_of zero at p m made rest small is ends read next =
      let same : ◌≡◌ {A = Moved} (record { moves = []; last = made.next; made = [] }) rest = cc in
      subst (λ (r : Moved). RouteFrom (system t view unjoined) p (m ∷ r.moves) (price_of made + walk_cost r.made)) same
      (rw add-zero (RouteFrom.enters (leads at p m made small is) ends))
  route_of (suc n) at p m made rest small is ends read next =
      RouteFrom.walks (leads at p m made small is) (ends ∙ no_more (suc n) (omega arith)) (next.route (omega arith))

  -- one move, where the law holds of the rest
  more_good : (n at : ℕ) (p : Place) (moved : Moved) → read_moves B t view unjoined (suc n) at p ≡ good moved
      → ((q : Place) (rest : Moved) → read_moves B t view unjoined n (at + 2) q ≡ good rest → MovesAt B t view unjoined n (at + 2) q rest)
      → MovesAt B t view unjoined (suc n) at p moved
  unfolding with_move total flat_map
  more_good n at p moved e rest-good =
      let (w, (made, (is, ends), (rest, read, same))) = (more_read n at p moved).0 e in
      let m = field B at 2 in
      let here = (field-placed B at bits 2 m (omega arith)).1 (w, refl) in
      let next_good = rest-good made.next rest read in
      let next : at + length (field_bits 2 m) ≡ at + 2 = rw length-field_bits in
      rw (← same) (record {
        stand = (placed-append B at (field_bits 2 m) (flat_map (field_bits 2) rest.moves)).1 (here.0, rw next next_good.stand);
        count = ap suc next_good.count;
        walks = walk_on_lem t view p m rest.moves made is next_good.walks;
        route = λ h. route_of n at p m made rest here.1 is ends read next_good;
      })

  -- moves that are read as good
  pub moves_good : (n at : ℕ) (p : Place) (moved : Moved) → read_moves B t view unjoined n at p ≡ good moved
      → MovesAt B t view unjoined n at p moved
  unfolding read_moves flat_map walk
  moves_good zero at p moved e =
      let same : ◌≡◌ {A = Moved} (record { moves = []; last = p; made = [] }) moved = cc in
      rw (← same) (record { stand = placed_nil B at; count = refl; walks = refl; route = λ h. absurd (omega arith) })
  moves_good (suc n) at p moved e = more_good n at p moved e (λ q rest read. moves_good n (at + 2) q rest read)

  -- one move of a route, where the rest is read as good
  more_route : (at : ℕ) (p q : Place) (m c : ℕ) (ms : List ℕ) {last : Place} {made : List Made} → Legal (system t view unjoined) p m c q
      → member q.vertex unjoined ≡ eqb (length ms) 0 → Placed B at (flat_map (field_bits 2) (m ∷ ms))
      → walk t view p (m ∷ ms) ≡ walked last made
      → ((rest : List Made) → Placed B (at + 2) (flat_map (field_bits 2) ms) → walk t view q ms ≡ walked last rest
      → read_moves B t view unjoined (length ms) (at + 2) q ≡ good (record { moves = ms; last = last; made = rest }))
      → read_moves B t view unjoined (length (m ∷ ms)) at p ≡ good (record { moves = m ∷ ms; last = last; made = made })
  unfolding flat_map priced with_move
  more_route at p q m c ms {last} {made} move ends stand walks rest-good =
      let first = walk_first t view p m ms walks in
      let both = (placed-append B at (field_bits 2 m) (flat_map (field_bits 2) ms)).0 stand in
      let here = (field-placed B at bits 2 m (omega arith)).0 (both.0, move.known) in
      let next : at + length (field_bits 2 m) ≡ at + 2 = rw length-field_bits in
      let is = first.is in
      let leads = rw is at move.leads in
      let place : first.made.next ≡ q = cc in
      let goes = rw place at first.goes in
      let read = rest-good first.rest (rw next at both.1) goes in
      (more_read (length ms) at p (record { moves = m ∷ ms; last = last; made = made })).1 (
        here.0,
        (
          first.made,
          (rw here.1 is, rw place ends),
          (
            record { moves = ms; last = last; made = first.rest },
            rw place read,
            rw here.1 (λ i. record { moves = m ∷ ms; last = last; made = sym first.parts i }),
          ),
        ),
      )

  -- no move
  none_read : (at : ℕ) (q : Place) {l : Place} (rest : List Made) → walk t view q [] ≡ walked l rest
      → read_moves B t view unjoined 0 at q ≡ good (record { moves = []; last = l; made = rest })
  unfolding read_moves walk
  none_read at q {l} rest w = let a : q ≡ l = cc in let b : [] ≡ rest = cc in rw (a, b)

  -- a route has a move
  pub route_some : {p : Place} {ms : List ℕ} {c : ℕ} → RouteFrom (system t view unjoined) p ms c → 1 ≤ length ms
  route_some (RouteFrom.enters move goal) = omega arith
  route_some (RouteFrom.walks move no_goal_lem r) = omega arith

  -- the moves of a route are read as good
  pub route_read : {p : Place} {ms : List ℕ} {c : ℕ} → RouteFrom (system t view unjoined) p ms c → (at : ℕ) {last : Place} {made : List Made}
      → Placed B at (flat_map (field_bits 2) ms) → walk t view p ms ≡ walked last made
      → read_moves B t view unjoined (length ms) at p ≡ good (record { moves = ms; last = last; made = made })
  route_read (RouteFrom.enters {s = p} {t = q} {m = m} {p = price} move goal) at stand walks =
      more_route at p q m price [] move goal stand walks (λ rest st w. none_read (at + 2) q rest w)
  route_read (RouteFrom.walks {s = p} {t = q} {m = m} {p = price} {c = c} {ms = ms} move no_goal_lem r) at stand walks =
      more_route at p q m price ms move (no_goal_lem ∙ sym (no_more (length ms) (route_some r))) stand walks (λ rest st w. route_read r (at + 2) st w)
