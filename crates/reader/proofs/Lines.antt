-- The layer lines in an array of eight, and reading them one by one.
--     eight-more, lines_more         one line more, at its layer
--     largest_fold, largest_lines    the largest M, taken line by line, and in the array
--     ahead, ahead_refused, ahead_more what was read, ahead of what is still to be read
--     LinesRead and its laws         the lines read so far, in a loop over the layers
--     layer_cut, LineRules           the rules of one line, way out by way out
use Prim.Native.Nat.{ℕ, zero, suc, ◌+◌, ◌-◌, ◌*◌, ◌<◌, ◌≤◌, max}
use mathlib.Core.Path.{◌≡◌, refl, sym, ap, ap₂, ◌∙◌}
use mathlib.Core.Bool.{Bool, true, false}
use mathlib.Core.List.{List, [], ◌∷◌, ◌++◌, map, map-append, append_assoc, append-nil}
use native.Mathlib.Nat.{sub-zero}
use native.Mathlib.Omega.{arith}
use borrow.Author.Tests.{le-leb, lt-leb}
use lib.ListN.{length, set, replicate, length-append, length-map}
use lib.Seq.{set_at}
use Rattle.std.proofs.Common.{Some, None}
use Rattle.std.specs.List.{fold}
use Rattle.job.specs.Job.{Layer, largest_min_length}
use Rattle.bits.specs.Bits.{bits_of, whole}
use Rattle.job.specs.Reading.{Read, refused, good, ◌>>=◌, ◌>>◌, rule, read_many, layer_at, via_rule, read_layer}
use Rattle.job.specs.Structs.{layer_struct, no_line, eight, layers_of, layer_group}
use Rattle.reader.specs.Structs.{largest_in, layer_read, layers_read}
use Rattle.job.specs.declared.groups.Layer.{Layer as LayerStruct}
use Rattle.job.proofs.Binds.{made_refused, made_good}

-- one line more, at the position after the others
eight-more : (ls : List LayerStruct) (l : LayerStruct) → length ls < 8 → set (eight ls) (length ls) l ≡ eight (ls ++ (l ∷ []))
unfolding eight
eight-more ls l h =
    let k : 8 - length ls ≡ suc (8 - suc (length ls)) = omega arith in
    let n : 8 - length (ls ++ (l ∷ [])) ≡ 8 - suc (length ls) = simp length-append (omega arith) in
    rw (k, n, set_at ls no_line (replicate (8 - suc (length ls)) no_line) l (length ls) refl) (sym (append_assoc ls (l ∷ []) (replicate (8 - suc (length ls)) no_line)))

-- one line more, at its layer
pub lines_more : (ls : List Layer) (l : Layer) → length ls < 8 → set (layers_of ls) (length ls) (layer_struct l) ≡ layers_of (ls ++ (l ∷ []))
unfolding layers_of
lines_more ls l h =
    rw (map-append layer_struct ls (l ∷ []), ← length-map ls layer_struct) (eight-more (map layer_struct ls) (layer_struct l) (rw length-map h))

-- ---- the largest

-- the largest, taken line by line
pub largest_fold : (a : ℕ) (ls : List LayerStruct) → fold (λ n (l : LayerStruct). max n l.least) a ls ≡ max a (largest_in ls)
unfolding largest_in
largest_fold a [] = omega arith
largest_fold a (l ∷ ls) = largest_fold (max a l.least) ls ∙ omega arith

-- the zeros past the top layer change nothing
largest_zeros : (n : ℕ) → largest_in (replicate n no_line) ≡ 0
unfolding largest_in no_line
largest_zeros zero = refl
largest_zeros (suc n) = rw (largest_zeros n)

-- the largest in the array is the largest of the lines
pub largest_lines : (ls : List Layer) → largest_in (layers_of ls) ≡ largest_min_length ls
unfolding layers_of eight largest_in largest_min_length
largest_lines ls = by (8 - length (map layer_struct ls)) ls
  where
    by : (n : ℕ) (ms : List Layer) → largest_in (map layer_struct ms ++ replicate n no_line) ≡ largest_min_length ms
    by n [] = largest_zeros n
    by n (m ∷ ms) = ap (max m.min_length) (by n ms)

-- ---- reading

-- what was read, ahead of what is still to be read
unfoldable pub ahead : {A : Type 0} → List A → Read (List A) → Read (List A)
ahead done (refused n p) = refused n p
ahead done (good xs) = good (done ++ xs)

module _ {A : Type 0} (width : ℕ) (read : (after at : ℕ) → Read A) (left at : ℕ) (done : List A) where
  -- a group that is refused ends the reading
  pub ahead_refused : (n p : ℕ) → read left at ≡ refused n p → ahead done (read_many width read (suc left) at) ≡ refused n p
  unfolding ahead read_many ◌>>=◌
  ahead_refused n p e = rw (e, read_many)

  -- a group that is good is ahead of the rest
  pub ahead_more : (x : A) → read left at ≡ good x → ahead done (read_many width read (suc left) at) ≡ ahead (done ++ (x ∷ [])) (read_many width read left (at + width))
  unfolding ahead read_many ◌>>=◌
  ahead_more x e = rw (e, read_many) (rest (read_many width read left (at + width)))
    where
      rest : (r : Read (List A)) → ahead done (◌>>=◌ r (λ xs. good (x ∷ xs))) ≡ ahead (done ++ (x ∷ [])) r
      rest (refused n p) = refl
      rest (good xs) = ap good (sym (append_assoc done (x ∷ []) xs))

-- ---- one line

module _ (bytes : List ℕ) (after at : ℕ) where
  -- a line that is cut is refused by 2
  pub layer_cut : layer_group bytes at ≡ None → layer_read (read_layer (bits_of bytes) after at) ≡ refused 2 at
  unfolding layer_group layer_read read_layer rule ◌>>=◌ ◌>>◌
  layer_cut e = by (whole (bits_of bytes) at 40) refl
    where
      by : (b : Bool) → whole (bits_of bytes) at 40 ≡ b → layer_read (read_layer (bits_of bytes) after at) ≡ refused 2 at
      by true w = absurd (cc)
      by false w = rw w

  -- the rules of a line that is whole, field by field
  pub record LineRules (l : LayerStruct) : Type 0 where
    pub wire : l.wire < 1 → layer_read (read_layer (bits_of bytes) after at) ≡ refused 5 at
    pub via : 1 ≤ l.wire → via_rule after l.via ≡ false → layer_read (read_layer (bits_of bytes) after at) ≡ refused 5 (at + 10)
    pub least : 1 ≤ l.wire → via_rule after l.via ≡ true → l.least < 1 → layer_read (read_layer (bits_of bytes) after at) ≡ refused 5 (at + 20)
    pub fine : 1 ≤ l.wire → via_rule after l.via ≡ true → 1 ≤ l.least → layer_read (read_layer (bits_of bytes) after at) ≡ good l

  pub line_rules : (l : LayerStruct) → layer_group bytes at ≡ Some l → LineRules l
  unfolding layer_group layer_read read_layer rule ◌>>=◌ ◌>>◌
  line_rules l e = by (whole (bits_of bytes) at 40) refl
    where
      by : (b : Bool) → whole (bits_of bytes) at 40 ≡ b → LineRules l
      by false w = absurd (cc)
      by true w =
          let same : l ≡ layer_struct (layer_at (bits_of bytes) at) = cc in
          rw same
          (record {
            wire = λ h. rw (w, lt-leb _ _ h);
            via = λ h v. rw (w, le-leb _ _ h, v);
            least = λ h v k. rw (w, le-leb _ _ h, v, lt-leb _ _ k);
            fine = λ h v k. rw (w, le-leb _ _ h, v, le-leb _ _ k);
          })

-- ---- the lines read so far

-- the lines below a layer were read, and are held; reading goes on with this layer's
pub record LinesRead (bits : List ℕ) (count : ℕ) (held : List LayerStruct) (layer : ℕ) : Type 0 where
  pub done : List Layer
  pub many : length done ≡ layer
  pub within : layer ≤ count
  pub same : held ≡ layers_of done
  pub rest : read_many 40 (read_layer bits) count 80 ≡ ahead done (read_many 40 (read_layer bits) (count - layer) (80 + 40 * layer))

-- at first none was read
pub lines_none : (bits : List ℕ) (count : ℕ) (held : List LayerStruct) → held ≡ layers_of [] → LinesRead bits count held 0
unfolding ahead
lines_none bits count held e =
    record { done = []; many = refl; within = omega arith; same = e; rest = rw sub-zero (unchanged (read_many 40 (read_layer bits) count 80)) }
  where
    unchanged : (r : Read (List Layer)) → r ≡ ahead [] r
    unchanged (refused n p) = refl
    unchanged (good xs) = refl

module _ (bits : List ℕ) (count : ℕ) (held : List LayerStruct) (layer : ℕ) (so_far : LinesRead bits count held layer) where
  -- this layer's line and those after it
  left_more : layer < count → count - layer ≡ suc (count - 1 - layer)
  left_more h = omega arith

  -- this layer's line is refused
  pub lines_refused : (n p : ℕ) → layer < count → refused n p ≡ layer_read (read_layer bits (count - 1 - layer) (80 + 40 * layer))
      → layers_read (read_many 40 (read_layer bits) count 80) ≡ refused n p
  unfolding layers_read layer_read ◌>>=◌
  lines_refused n p h e =
      rw (so_far.rest, left_more h, ahead_refused 40 (read_layer bits) (count - 1 - layer) (80 + 40 * layer) so_far.done n p (made_refused layer_struct _ e))

  -- this layer's line is good
  pub lines_next : (l : LayerStruct) → count ≤ 8 → layer < count → good l ≡ layer_read (read_layer bits (count - 1 - layer) (80 + 40 * layer))
      → LinesRead bits count (set held layer l) (layer + 1)
  unfolding layer_read
  lines_next l small h e =
      let line = made_good layer_struct _ e in
      let short : length so_far.done < 8 = omega (arith, so_far.many) in
      let fewer : count - 1 - layer ≡ count - (layer + 1) = omega arith in
      let further : 80 + 40 * layer + 40 ≡ 80 + 40 * (layer + 1) = omega arith in
      record {
        done = so_far.done ++ (line.0 ∷ []);
        many = simp length-append (omega (arith, so_far.many));
        within = omega arith;
        same =
            ap (λ (ls : List LayerStruct). set ls layer l) so_far.same
            ∙ ap (λ (x : LayerStruct). set (layers_of so_far.done) layer x) line.2
            ∙ ap (λ (n : ℕ). set (layers_of so_far.done) n (layer_struct line.0)) (sym so_far.many)
            ∙ lines_more so_far.done line.0 short;
        rest =
            so_far.rest
            ∙ ap (λ (n : ℕ). ahead so_far.done (read_many 40 (read_layer bits) n (80 + 40 * layer))) (left_more h)
            ∙ ahead_more 40 (read_layer bits) (count - 1 - layer) (80 + 40 * layer) so_far.done line.0 line.1
            ∙ ap₂ (λ (n at : ℕ). ahead (so_far.done ++ (line.0 ∷ [])) (read_many 40 (read_layer bits) n at)) fewer further;
      }

  -- no line is left
  pub lines_all : count ≤ layer → layers_read (read_many 40 (read_layer bits) count 80) ≡ good held
  unfolding layers_read ahead read_many ◌>>=◌
  lines_all h =
      let none : count - layer ≡ 0 = omega arith in
      rw (so_far.rest, none, append-nil, so_far.same)
