-- Codes that are put into a slice one after the other (`sets`), and the records of specs/Puts.antt.
--     sets_append                codes put in two parts
--     put_part                   the part of a slice where they stand, written at once
--     put_then                   what is put after what was put
--     written                    codes put at the front are a line
--     written_within             the line lies in the slice: what lending its front asks
use Prim.Native.Nat.{ℕ, suc, ◌+◌, ◌-◌, ◌≤◌}
use mathlib.Core.Path.{◌≡◌, sym, ◌∙◌}
use mathlib.Core.List.{List, [], ◌∷◌, ◌++◌, append_assoc}
use native.Mathlib.Nat.{add-zero}
use native.Mathlib.Omega.{arith}
use lib.ListN.{length, take, drop, set, length-append}
use borrow.Rule.Slice.PartMut.{put_mid}
use lib.Seq.{drop-drop, sets, sets-eq, length-take-le}
use Rattle.lines.specs.Written.{Written}
use Rattle.lines.specs.Puts.{PutAt}

pub sets_append : (l : List ℕ) (i : ℕ) (xs ys : List ℕ) → sets l i (xs ++ ys) ≡ sets (sets l i xs) (i + length xs) ys
sets_append l i [] ys = rw add-zero
sets_append l i (x ∷ xs) ys =
    let e : suc i + length xs ≡ i + suc (length xs) = omega arith in
    rw (← e) (sets_append (set l i x) (suc i) xs ys)

pub put_part : (l : List ℕ) (i : ℕ) (xs : List ℕ) → i + length xs ≤ length l → put_mid i (i + length xs - i) l xs ≡ sets l i xs
put_part l i xs h =
    let k : i + length xs - i ≡ length xs = omega arith in
    rw (sets-eq xs l i h, k, drop-drop (length xs) i l) (sym (append_assoc (take i l) xs (drop (i + length xs) l)))

pub put_then : (a b c : List ℕ) (i j k : ℕ) (xs ys : List ℕ) → PutAt a b i j xs → PutAt b c j k ys → PutAt a c i k (xs ++ ys)
put_then a b c i j k xs ys p q =
    record {
      contents = q.contents ∙ rw (p.contents, p.next_is) (sym (sets_append a i xs ys));
      next_is = rw length-append (omega (arith, p.next_is, q.next_is));
    }

pub written : (a b : List ℕ) (n : ℕ) (line : List ℕ) → PutAt a b 0 n line → length line ≤ length a → Written a b n line
written a b n line p h =
    let all : 0 + length line ≡ length line = omega arith in
    record {
      contents = p.contents ∙ rw all at (sets-eq line a 0 (omega arith));
      count_is = omega (arith, p.next_is);
    }

pub written_within : (a b : List ℕ) (n : ℕ) (line : List ℕ) → Written a b n line → (n ≤ length b) × (n ≡ length (take n b))
written_within a b n line w =
    let within : n ≤ length b = rw (w.contents, w.count_is, length-append) (omega arith) in
    (within, sym (length-take-le n b within))
