-- Room for a plan's counts in a report.
-- Specification: section 6.5.
--     none_over     no count passes 2^64 - 1
--     room_in       the report is long enough, and no count does
use Rattle.std.specs.Prelude.{ℕ, zero, suc, ◌/◌, ◌^◌, List, length, get_or, leb, ltb}
use Rattle.job.specs.Reading.{Read, good, ◌>>◌, rule}
use Rattle.counts.specs.Counts.{kinds, report_need}

-- "when a plan would take a count past 2^64 − 1, with the lowest such layer as its place": of n counts from
-- one on
unfoldable pub none_over : (report : List ℕ) → (at n : ℕ) → Read Unit
none_over report at zero = good tt
none_over report at (suc n) = do
  rule 19 (at / kinds) (ltb (get_or report at 0) (2 ^ 64))
  none_over report (suc at) n

-- "first with place 8 when the report lacks its 48 counts for eight layers, else" by what it would hold
unfoldable pub room_in : (report more : List ℕ) → Read Unit
room_in report more = do
  rule 19 8 (leb report_need (length report))
  none_over more 0 report_need
