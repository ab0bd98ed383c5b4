-- What counts cost: a report with them added is worth so much more.
--     worth_empty                          an empty report is worth nothing
--     counts_worth, counts_worth_append    what counts cost; those of two lists
--     worth-counted                        a report with counts added
--     prices_at, cost_of                   the price at a layer and a kind; what counts cost by a job's
--                                          prices
use Prim.Native.Nat.{ℕ, zero, suc, ◌+◌, ◌*◌, ◌<◌}
use mathlib.Core.Path.{◌≡◌, refl, sym, ◌∙◌}
use mathlib.Core.List.{List, [], ◌∷◌, ◌++◌, flat_map}
use native.Mathlib.Nat.{zero-add, add-zero, not-suc-le-zero, le_of_suc-le-suc}
use native.Mathlib.Omega.{arith}
use lib.ListN.{length, get_or, set, replicate, length-set, get_or-append}
use lib.Seq.{get_or-append-add}
use Rattle.job.specs.Lists.{All}
use Rattle.job.specs.Job.{Layer}
use Rattle.rules.specs.Prices.{Tech}
use Rattle.counts.specs.Counts.{kinds, Count, counted}
use Rattle.counts.specs.Counts.{count_prices, report_prices, worth}

-- ---- a report

-- an empty report is worth nothing
pub worth_empty : (ps : List ℕ) (n : ℕ) → worth ps (replicate n 0) ≡ 0
unfolding worth
worth_empty [] n = refl
worth_empty (p ∷ ps) zero = refl
worth_empty (p ∷ ps) (suc n) = omega (arith, worth_empty ps n)

-- one number raised
raised_worth : (ps r : List ℕ) (i many : ℕ) → i < length r → worth ps (set r i (get_or r i 0 + many)) ≡ worth ps r + many * get_or ps i 0
unfolding worth
raised_worth [] r i many h = omega arith
raised_worth (p ∷ ps) [] i many h = absurd (not-suc-le-zero h)
raised_worth (p ∷ ps) (n ∷ ns) zero many h = omega arith
raised_worth (p ∷ ps) (n ∷ ns) (suc i) many h = omega (arith, raised_worth ps ns i many (le_of_suc-le-suc h))

-- what counts cost
unfoldable pub counts_worth : (prices : List ℕ) → List Count → ℕ
counts_worth ps [] = 0
counts_worth ps (c ∷ cs) = c.many * get_or ps c.at 0 + counts_worth ps cs

-- those of two lists
pub counts_worth_append : (ps : List ℕ) (xs ys : List Count) → counts_worth ps (xs ++ ys) ≡ counts_worth ps xs + counts_worth ps ys
unfolding counts_worth
counts_worth_append ps [] ys = omega arith
counts_worth_append ps (c ∷ cs) ys = omega (arith, counts_worth_append ps cs ys)

-- a report with counts added
pub worth-counted : (ps : List ℕ) (cs : List Count) (r : List ℕ) → All (λ c. c.at < length r) cs → worth ps (counted cs r) ≡ worth ps r + counts_worth ps cs
unfolding counted counts_worth All
worth-counted ps [] r h = sym (add-zero _)
worth-counted ps (c ∷ cs) r h =
    let next = set r c.at (get_or r c.at 0 + c.many) in
    let same : length next ≡ length r = length-set r c.at _ in
    omega (arith, worth-counted ps cs next (rw same h.1), raised_worth ps r c.at c.many h.0)

-- ---- prices

-- the prices of the layers' counts, at a layer and a kind
pub prices_at : (t : Tech) (ls : List Layer) (d : Layer) (layer kind : ℕ) → layer < length ls → kind < kinds
    → get_or (flat_map (count_prices t) ls) (kinds * layer + kind) 0 ≡ get_or (count_prices t (get_or ls layer d)) kind 0
unfolding flat_map
prices_at t [] d layer kind h k = absurd (not-suc-le-zero h)
prices_at t (l ∷ ls) d zero kind h k = rw zero-add (get_or-append (count_prices t l) (flat_map (count_prices t) ls) 0 kind k)
prices_at t (l ∷ ls) d (suc layer) kind h k =
    let next : kinds * suc layer + kind ≡ kinds + (kinds * layer + kind) = omega arith in
    rw next (get_or-append-add (count_prices t l) (flat_map (count_prices t) ls) (kinds * layer + kind) 0 ∙ prices_at t ls d layer kind (le_of_suc-le-suc h) k)

-- what counts cost by a job's prices
abbrev pub cost_of : Tech → List Count → ℕ
cost_of t = counts_worth (report_prices t)
