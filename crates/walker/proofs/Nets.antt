-- The net at hand among the nets of the job, as the code goes through them.
--     Nets                           the nets before and after, the metal, and what the arrays hold
--     nets_begun                     before the first net
--     rules, grid, nets_sized        the job keeps its rules; the code's grid is its grid; what the code may
--                                    ask of it
--     hand, split, hand_held         the net at hand; where it stands; how it is loaded
--     own, own_pins_lem, pins_fit    its pins, and the array of them
--     at_net                         what is known before its first record
--     nets_on                        after its last
--     net_below, nets_room, nets_kept
use Prim.Native.Nat.{ℕ, suc, ◌+◌, ◌-◌, ◌≤◌, ◌<◌}
use mathlib.Core.Path.{◌≡◌, refl, sym, ap, subst, ◌∙◌}
use mathlib.Core.List.{List, [], ◌∷◌, ◌++◌, map, append_assoc}
use mathlib.Core.Bool.{true, or-true}
use native.Mathlib.Nat.{le_refl}
use native.Mathlib.Omega.{arith}
use lib.ListN.{length, get_or, take, replicate, length-append, length-map}
use lib.Seq.{length-sets}
use lib.Dec.{eqb}
use Rattle.bits.specs.Bits.{bits_of}
use Rattle.job.specs.Lists.{any, All}
use Rattle.job.specs.Grid.{Grid, vertices}
use Rattle.job.specs.Job.{Net, Job}
use Rattle.job.specs.Good.{GoodNet, GoodJob}
use Rattle.job.specs.Structs.{grid_of}
use Rattle.job.proofs.TwoWay.{rules_hold, net_at}
use Rattle.reader.specs.Loading.{net_loaded, pins_loaded, boxes_loaded}
use Rattle.reader.specs.declared.load.NetLoaded.{NetLoaded}
use Rattle.reader.proofs.Loaded.{first_net, net_told, all_below_lem, all_one}
use Rattle.rules.specs.Views.{View, member, pins_of, view_of}
use Rattle.rules.specs.Prices.{tech_of}
use Rattle.rules.specs.Standings.{metal_at_first, begun}
use Rattle.rules.specs.Apart.{Stands}
use Rattle.rules.specs.Structs.{tech_by}
use Rattle.rules.specs.declared.price.Tech.{Tech as TechStruct}
use Rattle.rules.proofs.Standing.{begun_metal, nets_apart}
use Rattle.metal.specs.Codes.{Codes, Beyond}
use Rattle.metal.proofs.Slices.{beyond_refl}
use Rattle.metal.proofs.Nets.{JobFits, job_fits, NetHeld, net_held}
use Rattle.tree.specs.Spots.{Pins, begun_spots}
use Rattle.tree.proofs.Turns.{pin-count}
use Rattle.tree.proofs.Spots.{spots_begun, begun_long}
use Rattle.views.specs.Sight.{boxes_in, NetAtHand}
use Rattle.views.proofs.Arrays.{boxes_in_lem}
use Rattle.views.proofs.Codes.{holds_at, code_own}
use Rattle.walker.specs.Entering.{Arrays}
use Rattle.walker.specs.Standing.{AtNet}
use Rattle.walker.specs.Structs.{NetsHeld}
use Rattle.walker.proofs.Metals.{Later, holds_at_lem}

-- no element
pub empty : {A : Type 0} (l : List A) → length l ≤ 0 → l ≡ []
empty [] h = refl
empty (n ∷ ns) h = absurd (omega (arith, h))

module _ (bytes : List ℕ) (tech : TechStruct) (occupants : List ℕ) (found : List ℕ) {count start : ℕ} (held : NetsHeld bytes tech occupants found count start) where
  -- so many nets are left: the codes are those of the metal, and past the grid the map is as found
  pub record Nets (before after : List Net) (metal : List (List ℕ)) (codes pins boxes : List ℕ) (position net left : ℕ) : Type 0 where
    pub nets : held.job.nets ≡ before ++ after
    pub number : length before ≡ net
    pub rest : length after ≡ left
    pub bit : net_at held.job (length before) ≡ position
    pub sixteen : length pins ≡ 16
    pub ninety : length boxes ≡ 90
    pub metals : length metal ≡ length held.job.nets
    -- the nets to come have their pins alone
    pub ahead : (i v : ℕ) → length before ≤ i → holds_at i metal v ≡ holds_at i (metal_at_first held.job) v
    pub coded : Codes held.job.grid metal codes
    pub kept : Beyond (vertices held.job.grid) codes found

  -- before the first net
  pub nets_begun : {pins boxes : List ℕ} → length pins ≡ 16 → length boxes ≡ 90
      → Nets [] held.job.nets (metal_at_first held.job) found pins boxes start 0 count
  unfolding metal_at_first
  nets_begun sixteen ninety =
      record {
        nets = refl;
        number = refl;
        rest = held.nets;
        bit = first_net held.job ∙ held.from;
        sixteen = sixteen;
        ninety = ninety;
        metals = length-map held.job.nets _;
        ahead = λ i v h. refl;
        coded = held.coded;
        kept = beyond_refl _ found;
      }

  -- the job keeps its rules
  pub rules : GoodJob held.job
  rules = rules_hold bytes held.job held.read

  -- the code's grid is the job's
  pub grid : grid_of tech.grid ≡ held.job.grid
  unfolding tech_by tech_of
  grid = λ i. (held.layers i).grid

  -- what the code may ask of the job
  pub nets_sized : JobFits bytes tech.grid
  nets_sized = job_fits bytes tech.grid held.job held.read (sym grid)

  module _ {before after : List Net} {metal : List (List ℕ)} {codes pins boxes : List ℕ} {position net left : ℕ}
      (so_far : Nets before after metal codes pins boxes position net left) where
    -- the map has room for the grid
    long : vertices held.job.grid ≤ length codes
    long = omega (arith, held.room, so_far.kept.size)

    pub nets_room : vertices (grid_of tech.grid) ≤ length codes
    nets_room = rw grid long

    -- past the grid the map is as found
    pub nets_kept : Beyond (vertices (grid_of tech.grid)) codes found
    nets_kept = rw grid so_far.kept

    -- there are fewer than 256 nets
    pub nets_few : net ≤ 255
    nets_few =
        omega (arith, rules.nets, ap (λ (l : List Net). length l) so_far.nets, length-append before after, so_far.number)

    pub net_below : 0 < left → net < 255
    net_below some =
        omega (arith, rules.nets, ap (λ (l : List Net). length l) so_far.nets, length-append before after, so_far.number, so_far.rest)

    module _ (some : 0 < left) where
      -- the net at hand, and those after it
      pub hand : (n : Net) × (others : List Net) × (after ≡ n ∷ others)
      hand = by after so_far.rest
        where
          by : (l : List Net) → length l ≡ left → (n : Net) × (others : List Net) × (l ≡ n ∷ others)
          by [] e = absurd (omega (arith, some, e))
          by (n ∷ others) e = (n, others, refl)

      -- it stands between the nets before and after
      split : held.job.nets ≡ before ++ (hand.0 ∷ hand.1)
      split = so_far.nets ∙ ap (λ (l : List Net). before ++ l) hand.2

      -- what holds of every net holds of it
      of_hand : (P : Net → Type 0) → All P held.job.nets → P hand.0
      of_hand P all = all_one P before hand.0 hand.1 (subst (λ (ns : List Net). All P ns) split all)

      -- it has fewer than sixteen boxes
      few_boxes : length hand.0.boxes < 16
      few_boxes = (of_hand (GoodNet held.job.grid held.job.obstacles) rules.good_nets).boxes

      -- it is loaded from its bit
      pub hand_held : NetHeld bytes (grid_of tech.grid) hand.0 position (net_at held.job (suc (length before))) pins
      hand_held = net_held held.job before hand.0 hand.1 held.read split so_far.sixteen (sym grid) so_far.bit

      -- its pins, by number
      abbrev pub own : List ℕ
      own = pins_of held.job.grid hand.0

      -- it has its list of metal
      known : length before < length metal
      known = omega (arith, so_far.metals, ap (λ (l : List Net). length l) split, length-append before (hand.0 ∷ hand.1))

      -- its pins are vertices of the grid
      pub own_below : All (λ v. v < vertices held.job.grid) own
      own_below = rw grid at hand_held.below

      -- and of the arrays
      own_array : All (λ v. v < 16384) own
      own_array = all_below_lem rules.grid.vertices own own_below

      module _ {loaded : NetLoaded} {pins' boxes' : List ℕ} (isLoaded : loaded ≡ net_loaded (bits_of bytes) position)
          (isPins : pins' ≡ pins_loaded (bits_of bytes) (grid_of tech.grid) position pins) (isBoxes : boxes' ≡ boxes_loaded (bits_of bytes) position boxes) where
        -- its pins are the first of the array
        pub own_pins_lem : take loaded.pins pins' ≡ own
        own_pins_lem = rw (isPins, isLoaded) (hand_held.list ∙ ap (λ (g : Grid). pins_of g hand.0) grid)

        -- the array is as long as it was
        sixteen_now : length pins' ≡ 16
        sixteen_now = rw isPins hand_held.sixteen

        -- the code may ask for them
        pub pins_fit : Pins pins' loaded.pins
        pins_fit =
            let few : loaded.pins ≤ 16 = rw isLoaded hand_held.few in
            record { few = few; there = omega (arith, few, sixteen_now); on_grid = rw own_pins_lem own_array }

        -- they are vertices of the grid
        pub pins_below : All (λ v. v < vertices (grid_of tech.grid)) (take loaded.pins pins')
        pins_below = rw (own_pins_lem, grid) own_below

        -- there are so many
        pub own_count : loaded.pins ≡ length own
        own_count = sym (pin-count pins_fit) ∙ ap (λ (l : List ℕ). length l) own_pins_lem

        -- its boxes stand in their array
        own_boxes_lem : boxes_in boxes' 0 loaded.boxes ≡ hand.0.boxes
        unfolding boxes_loaded
        own_boxes_lem =
            let told = rw so_far.bit at (net_told bytes held.job held.read before hand.0 hand.1 split) in
            rw (isBoxes, isLoaded, told.spans, told.boxes) (boxes_in_lem hand.0.boxes boxes (omega (arith, few_boxes, so_far.ninety)))

        -- the array is as long as it was
        ninety_now : length boxes' ≡ 90
        unfolding boxes_loaded
        ninety_now = rw isBoxes (simp length-sets so_far.ninety)

        -- there are few
        pub boxes_few : loaded.boxes ≤ 15
        boxes_few =
            let told = rw so_far.bit at (net_told bytes held.job held.read before hand.0 hand.1 split) in
            rw isLoaded (omega (arith, told.boxes, few_boxes))

        -- it is the net at hand
        at_hand : NetAtHand held.job (length before) metal occupants codes pins' boxes' loaded.pins loaded.boxes
        unfolding Codes metal_at_first
        at_hand =
            record {
              job = rules;
              before = before;
              net = hand.0;
              after = hand.1;
              nets = split;
              index = refl;
              metals = so_far.metals;
              occupied = held.occupied;
              coded = so_far.coded;
              own_pins = own_pins_lem;
              own_boxes = own_boxes_lem;
              fresh = fresh_now;
            }
          where
            few : length metal ≤ 255
            few = omega (arith, so_far.metals, rules.nets)

            own_first : (v : ℕ) → holds_at (length before) (metal_at_first held.job) v ≡ member v own
            own_first v = ap (λ (ns : List Net). holds_at (length before) (map (pins_of held.job.grid) ns) v) split ∙ holds_at_lem (pins_of held.job.grid) before hand.0 hand.1 v

            fresh_now : (v : ℕ) → v < vertices held.job.grid → get_or codes v 0 ≡ suc (length before) → member v own ≡ true
            fresh_now v on code =
                sym (own_first v) ∙ sym (so_far.ahead (length before) v (le_refl (length before)))
                ∙ code_own metal (length before) v known few (sym (so_far.coded v on) ∙ code)

        -- the arrays before its first record
        abbrev pub first : Arrays
        first = record { spots = begun_spots own (replicate 16384 0); codes = codes }

        -- what is known before its first record
        pub at_net : (view : View) → ((j : Job) (i : ℕ) (stands : List (List ℕ)) → grid_of tech.grid ≡ j.grid → net + 1 ≡ suc i
            → NetAtHand j i stands occupants codes pins' boxes' loaded.pins loaded.boxes → view ≡ view_of j i stands)
            → AtNet held.job (length before) view own (begun own metal) first
        unfolding begun member any
        at_net view sees =
            record {
              stood = record {
                spots = spots_begun held.job.grid own metal rules.grid.vertices own_array;
                codes = rw (begun_metal own metal) so_far.coded;
                room = omega (arith, rules.grid.vertices, begun_long own);
                size = long;
              };
              apart = of_hand (λ n. (m : List (List ℕ)) → Stands (tech_of held.job) (begun (pins_of held.job.grid n) m)) (nets_apart rules) metal;
              known = rw (begun_metal own metal) known;
              among = begun_among own;
              sees =
                  sees held.job (length before) metal grid (omega (arith, so_far.number)) at_hand
                  ∙ ap (view_of held.job (length before)) (sym (begun_metal own metal));
            }
          where
            begun_among : (ps : List ℕ) (v : ℕ) → member v (begun ps metal).unjoined ≡ true → member v ps ≡ true
            begun_among [] v e = e
            begun_among (p ∷ ps) v e = rw e (or-true (eqb v p))

        -- one net more
        pub one_on : length (before ++ (hand.0 ∷ [])) ≡ suc (length before)
        one_on = omega (arith, length-append before (hand.0 ∷ []))

        -- after its last record
        pub nets_on : {after-metal : List (List ℕ)} {after-codes : List ℕ} → Later (length before) (begun own metal).metal after-metal
            → Codes held.job.grid after-metal after-codes → Beyond (vertices held.job.grid) after-codes found
            → Nets (before ++ (hand.0 ∷ [])) hand.1 after-metal after-codes pins' boxes' loaded.next (net + 1) (left - 1)
        nets_on {after-metal} later coded kept =
            record {
              nets = split ∙ sym (append_assoc before (hand.0 ∷ []) hand.1);
              number = omega (arith, one_on, so_far.number);
              rest = omega (arith, so_far.rest, ap (λ (l : List Net). length l) hand.2);
              bit = rw (one_on, isLoaded) (sym hand_held.next);
              sixteen = sixteen_now;
              ninety = ninety_now;
              metals = here.long ∙ so_far.metals;
              ahead = λ i v h. here.same i v (omega (arith, h, one_on)) ∙ so_far.ahead i v (omega (arith, h, one_on));
              coded = coded;
              kept = kept;
            }
          where
            here : Later (length before) metal after-metal
            here = rw (begun_metal own metal) at later
