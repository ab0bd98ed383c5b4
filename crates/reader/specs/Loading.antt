-- The form in which a net's pins and boxes are handed to routing: vertex numbers, and six numbers for each
-- box. The laws that tie it to the nets of the job that was read are in proofs/Loaded.antt.
use Rattle.std.specs.Prelude.{ℕ, zero, suc, ◌+◌, ◌*◌, ◌≤◌, List, [], ◌∷◌, ◌++◌, length}
use Rattle.std.proofs.lemmas.List.Edits.{sets}
use Rattle.bits.specs.Bits.{field}
use Rattle.job.specs.Grid.{Grid, vertex_number}
use Rattle.job.specs.Job.{Box}
use Rattle.job.specs.Reading.{vertex_at, box_at}
use Rattle.reader.specs.declared.load.NetLoaded.{NetLoaded}

-- the numbers of n pins from a bit on
unfoldable pub pin_numbers : (bits : List ℕ) → Grid → (n at : ℕ) → List ℕ
pin_numbers bits g zero at = []
pin_numbers bits g (suc n) at = vertex_number g (vertex_at bits at) ∷ pin_numbers bits g n (at + 19)

unfoldable pub box_numbers : Box → List ℕ
box_numbers b = b.layer_low ∷ b.layer_high ∷ b.row_low ∷ b.row_high ∷ b.column_low ∷ b.column_high ∷ []

-- the numbers of n boxes from a bit on
unfoldable pub boxes_numbers : (bits : List ℕ) → (n at : ℕ) → List ℕ
boxes_numbers bits zero at = []
boxes_numbers bits (suc n) at = box_numbers (box_at bits at) ++ boxes_numbers bits n (at + 38)

-- the net whose head stands at a bit: how many pins and boxes it has, and the bit after it
unfoldable pub net_loaded : (bits : List ℕ) (at : ℕ) → NetLoaded
net_loaded bits at =
    record {
      pins = suc (field bits at 4);
      boxes = field bits (at + 4) 4;
      next = at + 8 + 19 * suc (field bits at 4) + 38 * field bits (at + 4) 4;
    }

-- all of it is there
unfoldable pub NetRoom : (bits : List ℕ) (at : ℕ) → Type 0
NetRoom bits at = (net_loaded bits at).next ≤ length bits

unfoldable pub pins_loaded : (bits : List ℕ) → Grid → (at : ℕ) → List ℕ → List ℕ
pins_loaded bits g at pins = sets pins 0 (pin_numbers bits g (net_loaded bits at).pins (at + 8))

unfoldable pub boxes_loaded : (bits : List ℕ) (at : ℕ) → List ℕ → List ℕ
boxes_loaded bits at boxes = sets boxes 0 (boxes_numbers bits (net_loaded bits at).boxes (at + 8 + 19 * (net_loaded bits at).pins))
