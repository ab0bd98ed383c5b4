-- One move from a place.
-- Specification: section 2.
--     Made, Stepped       what a move did; or that it is not legal
--     step                the move by the rules
--     price_of, priced    its price; its price and the next place alone
use Rattle.std.specs.Prelude.{ℕ, ◌+◌, List, [], true, false}
use Rattle.paths.specs.Systems.{Step}
use Rattle.paths.specs.Costs.{Cost, fin, inf}
use Rattle.rules.specs.Tracks.{Entered, outside, at, entered}
use Rattle.rules.specs.Views.{View}
use Rattle.rules.specs.Segments.{Kind, along, down, up, kind_of, fresh, Place, Grown, back, grown, grow}
use Rattle.rules.specs.Prices.{Tech, line_of, entering}
use Rattle.rules.specs.Overheads.{Overhead, forbidden, owes, overhead_of}

-- what a legal move did: where it led, the price of entering, and the overhead with what it laid and the
-- steps that were missing
pub record Made : Type 0 where
  pub next : Place
  pub enter : ℕ
  pub over : ℕ
  pub laid : List ℕ
  pub added : ℕ
  pub penalties : ℕ

-- "A move is legal if nothing above forbids it."
pub data Stepped : Type 0 where
  illegal : Stepped
  legal : Made → Stepped

-- a via move, with what it owes; it makes the segment fresh again
unfoldable pub leaving : (w enter : ℕ) → Overhead → Stepped
leaving w enter forbidden = illegal
leaving w enter (owes price laid added penalties) =
    legal (record { next = record { vertex = w; segment = fresh }; enter = enter; over = price; laid = laid; added = added; penalties = penalties })

-- a step along the track costs no overhead
unfoldable pub stepping : (w enter : ℕ) → Grown → Stepped
stepping w enter back = illegal
stepping w enter (grown s) = legal (record { next = record { vertex = w; segment = s }; enter = enter; over = 0; laid = []; added = 0; penalties = 0 })

-- what the move's kind asks of the segment
unfoldable pub by_segment : Tech → View → Place → Kind → (w enter : ℕ) → Stepped
by_segment t view p (along d) w enter = stepping w enter (grow (line_of t p.vertex).min_length d p.segment)
by_segment t view p down w enter = leaving w enter (overhead_of t view p.vertex p.segment)
by_segment t view p up w enter = leaving w enter (overhead_of t view p.vertex p.segment)

-- a closed penalty forbids
unfoldable pub if_priced : Cost → (ℕ → Stepped) → Stepped
if_priced inf go = illegal
if_priced (fin enter) go = go enter

-- "It may not enter an obstacle or another net's pin."
unfoldable pub into : Tech → View → Place → (move : ℕ) → Entered → Stepped
into t view p m outside = illegal
into t view p m (at w) =
    elim (view.blocked w) [ true ↦ illegal | false ↦ if_priced (entering t view p.vertex w m) (by_segment t view p (kind_of m) w) ]

unfoldable pub step : Tech → View → Place → (move : ℕ) → Stepped
step t view p m = into t view p m (entered t.grid p.vertex m)

-- a move costs the price of entering and the overhead
abbrev pub price_of : Made → ℕ
price_of made = made.enter + made.over

unfoldable pub priced : Stepped → Step Place
priced illegal = Step.blocked
priced (legal made) = Step.to (price_of made) made.next
