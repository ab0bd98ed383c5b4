-- Bits filled up with fewer than eight zero bits.
--     group_below, concat_below     the bits of a group, and of groups one after the other, are each 0 or 1
--     job_below                     each of a job's bits is 0 or 1
--     Filled                        a list is these bits, then fewer than eight zero bits
--     filled_tail                   it is so where they stand first and the tail's rules hold
--     filled_packed                 the bits of bytes are so where the bytes are the packed bits
use Prim.Native.Nat.{ℕ, zero, suc, ◌+◌, ◌-◌, ◌*◌, ◌/◌, ◌<◌}
use native.Mathlib.Omega.{arith}
use native.Mathlib.Nat.{zero-add}
use mathlib.Core.Path.{◌≡◌, refl, ap, ◌∙◌}
use mathlib.Core.Logic.{◌↔◌}
use mathlib.Core.List.{List, [], ◌∷◌, ◌++◌, flat_map}
use lib.ListN.{length, drop, replicate, length-append, length-drop, length-replicate}
use lib.Seq.{drop-append_seam}
use Rattle.bits.specs.Bits.{number, bits_of, pack_bits, group_bits}
use Rattle.bits.specs.Puts.{AllBelow}
use Rattle.job.specs.Job.{Net, Job}
use Rattle.job.specs.Packing.{head_bits, layer_bits, vertex_bits, obstacle_bits, box_bits, net_bits, job_bits}
use Rattle.bits.proofs.Laws.{field_bits_bits, below_append, below_drop, number_zero, bits_of-pack_bits, pack_bits_only}
use Rattle.job.proofs.TwoWay.Places.{Placed, placed}

-- no bits
none_below : AllBelow 2 []
unfolding AllBelow
none_below = tt

-- a group's bits
pub group_below : (fs : List (ℕ × ℕ)) → AllBelow 2 (group_bits fs)
unfolding group_bits
group_below [] = none_below
group_below (f ∷ fs) = below_append 2 _ _ (field_bits_bits f.0 f.1) (group_below fs)

-- the bits of groups one after the other
pub concat_below : {A : Type 0} (bits : A → List ℕ) → ((x : A) → AllBelow 2 (bits x)) → (xs : List A) → AllBelow 2 (flat_map bits xs)
unfolding flat_map
concat_below bits below [] = none_below
concat_below bits below (x ∷ xs) = below_append 2 _ _ (below x) (concat_below bits below xs)

-- a net's bits
net_below : (net : Net) → AllBelow 2 (net_bits net)
unfolding net_bits vertex_bits box_bits
net_below net =
    below_append 2 _ _ (group_below _)
    (below_append 2 _ _ (concat_below vertex_bits (λ v. group_below _) net.pins) (concat_below box_bits (λ b. group_below _) net.boxes))

-- each of a job's bits is 0 or 1
pub job_below : (j : Job) → AllBelow 2 (job_bits j)
unfolding job_bits head_bits layer_bits obstacle_bits vertex_bits
job_below j =
    below_append 2 _ _ (group_below _)
    (below_append 2 _ _ (concat_below layer_bits (λ l. group_below _) j.lines)
    (below_append 2 _ _ (concat_below obstacle_bits (λ o. below_append 2 _ _ (group_below _) (field_bits_bits 8 (o.run - 1))) j.obstacles)
    (concat_below net_bits net_below j.nets)))

-- a list is these bits, then fewer than eight zero bits
abbrev pub Filled : (B bits : List ℕ) → Type 0
Filled B bits = (k : ℕ) × (k < 8) × (B ≡ bits ++ replicate k 0)

-- zero bits write 0
number_zeros : (k : ℕ) → number (replicate k 0) ≡ 0
unfolding number
number_zeros zero = refl
number_zeros (suc k) = rw (number_zeros k) (omega arith)

-- it is so where they stand first, and fewer than eight bits are left, which write 0
pub filled_tail : (B bits : List ℕ) → AllBelow 2 B
    → Filled B bits ↔ (Placed B 0 bits × ((length B - length bits < 8) × (number (drop (length bits) B) ≡ 0)))
unfolding Placed
filled_tail B bits below = (forth, back)
  where
    forth : Filled B bits → Placed B 0 bits × ((length B - length bits < 8) × (number (drop (length bits) B) ≡ 0))
    forth (k, short, e) =
        (placed B 0 bits (replicate k 0) e, rw e (simp (length-append, length-replicate, drop-append_seam, number_zeros) (omega arith, refl)))

    back : Placed B 0 bits × ((length B - length bits < 8) × (number (drop (length bits) B) ≡ 0)) → Filled B bits
    back (p, (short, zeros)) =
        let rest = drop (length bits) B in
        let zero_bits : rest ≡ replicate (length rest) 0 = number_zero rest (below_drop 2 (length bits) B below) zeros in
        (length rest, rw length-drop short, rw zero-add at p ∙ ap (λ (r : List ℕ). bits ++ r) zero_bits)

-- the bits of bytes are so where the bytes are the packed bits
pub filled_packed : (b bits : List ℕ) → AllBelow 256 b → AllBelow 2 bits → Filled (bits_of b) bits ↔ (b ≡ pack_bits bits)
filled_packed b bits bytes below = (
  λ (k, short, e). pack_bits_only b bits k bytes below short e,
  λ e. (8 * ((length bits + 7) / 8) - length bits, omega arith, rw e (bits_of-pack_bits bits below)),
)
