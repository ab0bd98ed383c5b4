-- What the net at hand sees, made from the occupants of obstacles and pins, the map's codes, and the net's
-- pins and boxes.
--     boxes_in                    boxes, from six numbers each
--     taken_code                  whether a code tells of another net's metal
--     seen_byte                   the byte of a vertex
--     in_layer, in_row            a box's vertices on one layer, and on one row
--     guided_byte, GuidedWhere    the bytes of vertices that are found inside the guide
--     NetAtHand                   the net of a job that these are of
--     sight_of                    the byte of a vertex where every net's pins are blocked and every net's
--                                 metal is taken
--     own_byte, opened            the byte of one of the net's own pins from that, and all bytes with its
--                                 pins made so
use Rattle.std.specs.Prelude.{ℕ, zero, suc, ◌+◌, ◌-◌, ◌%◌, ◌<◌, ◌≡◌, List, [], ◌∷◌, ◌++◌, Bool, true, ◌&&◌, not, cond, length, get_or, set, take, eqb}
use Rattle.job.specs.Grid.{Grid, Vertex, vertices}
use Rattle.job.specs.Job.{Box, Net, Job}
use Rattle.job.specs.Good.{all_pins, GoodJob}
use Rattle.occupants.specs.Occupants.{Occupants}
use Rattle.rules.specs.Tracks.{vertex_by}
use Rattle.rules.specs.Views.{member, in_box, in_guide, pins_of}
use Rattle.rules.specs.Maps.{net_code}

-- the box whose six numbers stand from a position on
abbrev pub box_in : (numbers : List ℕ) → (from : ℕ) → Box
box_in numbers from =
    record {
      layer_low = get_or numbers from 0;
      layer_high = get_or numbers (from + 1) 0;
      row_low = get_or numbers (from + 2) 0;
      row_high = get_or numbers (from + 3) 0;
      column_low = get_or numbers (from + 4) 0;
      column_high = get_or numbers (from + 5) 0;
    }

-- n boxes from a position on
unfoldable pub boxes_in : (numbers : List ℕ) → (from n : ℕ) → List Box
boxes_in numbers from zero = []
boxes_in numbers from (suc n) = box_in numbers from ∷ boxes_in numbers (from + 6) n

-- "A vertex is taken when another net's metal, extensions included, covers it."
unfoldable pub taken_code : (n code : ℕ) → Bool
taken_code n code = not (eqb code 0) && not (eqb code n)

-- the flags that rules/specs/Seen.antt reads: 1 blocked, 2 taken, 4 outside the guide
unfoldable pub seen_byte : (blocked taken outside : Bool) → ℕ
seen_byte blocked taken outside = cond blocked 1 0 + cond taken 2 0 + cond outside 4 0

-- a box's vertices on one layer, and on one row of it
unfoldable pub in_layer : (layer : ℕ) → Box → Vertex → Bool
in_layer layer b w = eqb w.layer layer && in_box w b

unfoldable pub in_row : (layer row : ℕ) → Box → Vertex → Bool
in_row layer row b w = eqb w.row row && in_layer layer b w

-- the byte of a vertex, without the flag 4 where the vertex is found inside the guide
unfoldable pub guided_byte : (found : Bool) → (byte : ℕ) → ℕ
guided_byte found byte = cond found (byte % 4) byte

-- bytes before and after the vertices that a test tells of are found inside the guide
abbrev pub GuidedWhere : Grid → (test : Vertex → Bool) → (before after : List ℕ) → Type 0
GuidedWhere g test before after = (v : ℕ) → v < vertices g → get_or after v 0 ≡ guided_byte (test (vertex_by g v)) (get_or before v 0)

-- net k of a good job, with its pins and boxes in arrays, the occupants of the job, and the map's codes of
-- the metal
pub record NetAtHand (j : Job) (k : ℕ) (metal : List (List ℕ)) (occupants codes pins boxes : List ℕ) (pinCount boxCount : ℕ) : Type 0 where
  pub job : GoodJob j
  pub before : List Net
  pub net : Net
  pub after : List Net
  pub nets : j.nets ≡ before ++ (net ∷ after)
  pub index : length before ≡ k
  pub metals : length metal ≡ length j.nets
  pub occupied : Occupants j.grid j.obstacles (all_pins j.nets) occupants
  pub coded : (v : ℕ) → v < vertices j.grid → get_or codes v 0 ≡ net_code 0 1 metal v
  pub own_pins : take pinCount pins ≡ pins_of j.grid net
  pub own_boxes : boxes_in boxes 0 boxCount ≡ net.boxes
  -- before its first join a net's own metal is its pins
  pub fresh : (v : ℕ) → v < vertices j.grid → get_or codes v 0 ≡ suc k → member v (pins_of j.grid net) ≡ true

-- the byte of a vertex where every net's pins are blocked and every net's metal is taken
unfoldable pub sight_of : Grid → (occupants codes : List ℕ) → List Box → (v : ℕ) → ℕ
sight_of g occupants codes boxes v =
    seen_byte (not (eqb (get_or occupants v 0) 0)) (not (eqb (get_or codes v 0) 0)) (not (in_guide boxes (vertex_by g v)))

-- the byte of one of the net's own pins, from that: it is not blocked, and it is taken by another net's code
unfoldable pub own_byte : (n code byte : ℕ) → ℕ
own_byte n code byte = byte - byte % 4 + cond (taken_code n code) 2 0

-- with some pins made so
unfoldable pub opened : (n : ℕ) → (codes vs seen : List ℕ) → List ℕ
opened n codes [] seen = seen
opened n codes (v ∷ vs) seen = opened n codes vs (set seen v (own_byte n (get_or codes v 0) (get_or seen v 0)))
