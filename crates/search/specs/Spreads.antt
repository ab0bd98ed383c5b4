-- What the entries have come to while places are settled.
--     Entered            a move from a settled place into a goal, at the best cost
--     Spread             every entry is the cost of a walk; the moves of settled places lower no entry, and
--                        enter no goal for less than the best cost
--     NoGoals            no place with a key lies on an unjoined pin
--     Seeded, Seeding    the same before any place is settled, while the tree is put into the heap
--     Told               each key tells a cost
--     Turn               while the moves of a place are tried, after so many
--     Between            after all moves of the settled places
--     Ended              when the search stops
--     Reach              what trying one move does
use Rattle.std.specs.Prelude.{ℕ, suc, ◌+◌, ◌-◌, ◌*◌, ◌≤◌, ◌<◌, min, ◌≡◌, List, true, false, length, get_or, set, eqb}
use Rattle.job.specs.Grid.{vertices}
use Rattle.paths.specs.Systems.{Step, blocked, to, Legal}
use Rattle.paths.specs.Forward.{From}
use Rattle.rules.specs.Views.{View}
use Rattle.rules.specs.Segments.{Place}
use Rattle.rules.specs.Prices.{Tech}
use Rattle.rules.specs.Walks.{start_at}
use Rattle.rules.specs.Joins.{places}
use Rattle.rules.specs.Places.{place_code, GoodPlace, dearest_move}
use Rattle.heap.specs.Heaps.{settled_slot, key_of, slot_of, In, Lowered}
use Rattle.metal.specs.Codes.{Beyond}
use Rattle.search.specs.Fronts.{system_by, starts_by, left_at, costs, no_goal}
use Rattle.search.specs.Lists.{Done, Laid}
use Rattle.search.specs.Bits.{HasMove, with_move}

-- the key of each place by its number
abbrev pub keys : (work : List ℕ) → ℕ → ℕ
keys work c = key_of (get_or work c 0)

-- a place that has a key lies on no unjoined pin
pub record NoGoals (t : Tech) (spots work : List ℕ) : Type 0 where
  pub none : {p : Place} → GoodPlace t p → 0 < keys work (place_code t p) → eqb (get_or spots p.vertex 0) 2 ≡ false

module _ (t : Tech) (spots bounds : List ℕ) where
  -- the first vertices of the tree have their entries, at no cost, and no other place has
  pub record Seeded (upto : ℕ) (key : ℕ → ℕ) : Type 0 where
    pub starts : (v : ℕ) → v < upto → get_or spots v 0 ≡ 1 → key (place_code t (start_at v)) ≡ suc (left_at t bounds (place_code t (start_at v)))
    pub only : {p : Place} → GoodPlace t p → 0 < key (place_code t p)
        → (key (place_code t p) ≡ suc (left_at t bounds (place_code t p))) × ((v : ℕ) × (v < vertices t.grid) × (get_or spots v 0 ≡ 1) × (p ≡ start_at v))

  -- so many vertices are asked
  pub record Seeding (found work : List ℕ) (size vertex : ℕ) : Type 0 where
    pub few : vertex ≤ vertices t.grid
    pub laid : Laid (places t) size 0 0 work
    pub seeded : Seeded vertex (keys work)
    pub kept : Beyond (places t + places t) work found

module _ (t : Tech) (view : View) (spots : List ℕ) where
  module _ (key : ℕ → ℕ) (settled : ℕ → Type 0) where
    -- from a settled place p a move enters a goal q; the walk costs n
    pub record Entered (n : ℕ) : Type 0 where
      pub from : Place
      pub to : Place
      pub cost : ℕ
      pub move : ℕ
      pub price : ℕ
      pub good : GoodPlace t from
      pub no_goal : eqb (get_or spots from.vertex 0) 2 ≡ false
      pub done : settled (place_code t from)
      pub is : key (place_code t from) ≡ suc cost
      pub legal : Legal (system_by t view spots) from move price to
      pub goal : eqb (get_or spots to.vertex 0) 2 ≡ true
      pub sum : cost + price ≡ n

    -- of the place with number `item` the first `number` moves are tried, of other settled places all
    pub record Spread (near : List ℕ) (best limit item number : ℕ) : Type 0 where
      pub starts : (v : ℕ) → v < vertices t.grid → get_or spots v 0 ≡ 1 → key (place_code t (start_at v)) ≡ 1
      pub reached : {p : Place} {e : ℕ} → GoodPlace t p → key (place_code t p) ≡ suc e → From (system_by t view spots) (starts_by t view spots) p e
      pub no_goals : {p : Place} → GoodPlace t p → 0 < key (place_code t p) → eqb (get_or spots p.vertex 0) 2 ≡ false
      pub small : (c : ℕ) → c < places t → key c ≤ suc limit
      pub closed : {p q : Place} {e m c : ℕ} → GoodPlace t p → settled (place_code t p) → (place_code t p ≡ item → m < number)
          → key (place_code t p) ≡ suc e → Legal (system_by t view spots) p m c q → eqb (get_or spots q.vertex 0) 2 ≡ false
          → (0 < key (place_code t q)) × (key (place_code t q) ≤ suc (e + c))
      pub least : {p q : Place} {e m c : ℕ} → GoodPlace t p → settled (place_code t p) → (place_code t p ≡ item → m < number)
          → key (place_code t p) ≡ suc e → Legal (system_by t view spots) p m c q → eqb (get_or spots q.vertex 0) 2 ≡ true → best ≤ e + c
      pub lit : {p q : Place} {m c : ℕ} → GoodPlace t p → settled (place_code t p) → (place_code t p ≡ item → m < number)
          → Legal (system_by t view spots) p m c q → eqb (get_or spots q.vertex 0) 2 ≡ true
          → HasMove (get_or near p.vertex 0) m
      pub found : best < no_goal → Entered best
      pub bound : best ≤ no_goal

  module _ (bounds : List ℕ) where
    -- each key tells a cost
    abbrev Told : (work : List ℕ) → Type 0
    Told work = (c : ℕ) → c < places t → 0 < keys work c → 0 < costs t bounds work c

    -- the place that is being settled has the greatest key of the settled ones; none of these has a lead
    pub record Turn (near work : List ℕ) (size settled best item distance number : ℕ) : Type 0 where
      pub laid : Laid (places t) size settled (suc (16 * distance + left_at t bounds item)) work
      pub told : Told work
      pub spread : Spread (costs t bounds work) (Done (places t) work) near best (dearest_move * settled) item number
      pub known : item < places t
      pub done : Done (places t) work item
      pub key : keys work item ≡ suc (16 * distance + left_at t bounds item)
      pub below : distance ≤ dearest_move * (settled - 1)
      pub plain : (c : ℕ) → c < places t → Done (places t) work c → slot_of (get_or work c 0) ≡ settled_slot
      pub bytes : length near ≡ 16384

    -- a place costs at most the dearest move more than one settled before it
    pub record Between (near work : List ℕ) (size settled best : ℕ) : Type 0 where
      pub last : ℕ
      pub laid : Laid (places t) size settled last work
      pub told : Told work
      pub spread : Spread (costs t bounds work) (Done (places t) work) near best (dearest_move * settled) 0 4
      pub plain : (c : ℕ) → c < places t → Done (places t) work c → slot_of (get_or work c 0) ≡ settled_slot
      pub bytes : length near ≡ 16384

    -- no open place is within the best cost
    pub record Ended (near work : List ℕ) (size settled best : ℕ) : Type 0 where
      pub between : Between near work size settled best
      pub rest : (c : ℕ) → c < places t → In work (places t) c → 16 * best < keys work c

    -- what trying one move does, to the heap's size, the best cost, the bytes of moves that enter a goal and
    -- the work slice
    pub record Reach (p : Place) (distance number : ℕ) (move : Step Place) (size best : ℕ) (near work : List ℕ) (size' best' : ℕ) (near' work' : List ℕ) : Type 0 where
      pub stopped : move ≡ blocked → (size' ≡ size) × (best' ≡ best) × (near' ≡ near) × (work' ≡ work)
      pub enters : {c : ℕ} {q : Place} → move ≡ to c q → eqb (get_or spots q.vertex 0) 2 ≡ true
          → (size' ≡ size) × (best' ≡ min best (distance + c)) × (near' ≡ set near p.vertex (with_move (get_or near p.vertex 0) number)) × (work' ≡ work)
      pub goes : {c : ℕ} {q : Place} → move ≡ to c q → eqb (get_or spots q.vertex 0) 2 ≡ false
          → Lowered (places t) size (place_code t q) (16 * (distance + c) + left_at t bounds (place_code t q)) work work' size' × (best' ≡ best) × (near' ≡ near)
