-- `search::retrace::retrace_place` meets its contract: each way out by its law.
use mathlib.Core.Path.{ap}
use native.Mathlib.Omega.{arith}
use Rattle.rules.specs.Segments.{Place}
use Rattle.rules.specs.Places.{place_at}
use Rattle.rules.specs.Structs.{tech_by, seen_by}
use Rattle.bounds.proofs.Coordinates.{vertex_fields_lem}
use Rattle.search.proofs.Asking.{largest_asked, item_good, vertex_here, vertex_on}
use Rattle.search.proofs.Costing.{cost_touched}
use Rattle.search.proofs.Answering.{item_key, item_distance, item_lowest, led_cost, asked_not, asked_led, answered_not, answered_led}
use Rattle.search.proofs.Leads.{only_none}
use Rattle.search.proofs.retrace.retrace_place.Goals as goal

pub place_of-place-requires : goal.place_of-place-requires
place_of-place-requires c = largest_asked c.args.prices.now.fits c.requires.known.0

pub bounds-near-v : goal.bounds-near-v
bounds-near-v c =
    let fits = c.args.prices.now.fits in
    vertex_here fits _ (item_good fits c.requires.known.0 _ c.place_of-place.ensures)

pub returns-then-moves-eq0 : goal.returns-then-moves-eq0
returns-then-moves-eq0 c =
    let args = c.args in
    let vertex = ap (λ (p : Place). p.vertex) c.place_of-place.ensures in
    let here = place_at args.prices.now.tech.largest args.item in
    answered_not (asked_not c.requires.known.2 (λ e is.
    only_none _ _ args.spots.now args.bounds.now.entries args.work.now args.best here e (rw vertex at c.if-moves-eq0.true) (c.requires.by_index e is)))

pub vertex_by-vertex-requires : goal.vertex_by-vertex-requires
vertex_by-vertex-requires c =
    let fits = c.args.prices.now.fits in
    vertex_on fits _ (item_good fits c.requires.known.0 _ c.place_of-place.ensures)

pub key_of-requires : goal.key_of-requires
key_of-requires c = let pre = c.requires.known in omega (arith, pre.0, pre.1)

pub overflow_sub-distance : goal.overflow_sub-distance
overflow_sub-distance c = omega (arith, c.key_of.ensures, cost_touched _ _ _ _ c.requires.known.3)

pub of-requires : goal.of-requires
of-requires c =
    let fits = c.args.prices.now.fits in
    let on = vertex_on fits _ (item_good fits c.requires.known.0 _ c.place_of-place.ensures) in
    rw c.vertex_by-vertex.ensures (vertex_fields_lem _ _ on)

pub overflow_sub-distance-2 : goal.overflow_sub-distance-2
overflow_sub-distance-2 c =
    let pre = c.requires.known in
    let args = c.args in
    omega (arith, item_key c.args.prices.now.fits pre.0 _ c.place_of-place.ensures args.bounds.now.entries args.work.now c.vertex_by-vertex.ensures pre.3 c.key_of.ensures c.of.ensures)

pub lowest_among-requires : goal.lowest_among-requires
lowest_among-requires c =
    let fits = c.args.prices.now.fits in
    let pre = c.requires.known in
    let args = c.args in
    let is = c.place_of-place.ensures in
    let vertex = ap (λ (p : Place). p.vertex) is in
    let at = c.vertex_by-vertex.ensures in
    let cost = item_distance fits pre.0 _ is args.bounds.now.entries args.work.now at pre.3 c.key_of.ensures c.of.ensures in
    let good = item_good fits pre.0 _ is in
    (record { good = good; is = at; below = omega (arith, cost, pre.5) }, pre.1, rw (is, vertex, cost) (c.requires.by_index _ (omega (arith, pre.3))))

pub returns-in_default : goal.returns-in_default
returns-in_default c =
    let fits = c.args.prices.now.fits in
    let pre = c.requires.known in
    let args = c.args in
    let is = c.place_of-place.ensures in
    let cost = item_distance fits pre.0 _ is args.bounds.now.entries args.work.now c.vertex_by-vertex.ensures pre.3 c.key_of.ensures c.of.ensures in
    let told = item_lowest fits pre.0 _ is args.bounds.now.entries args.work.now (seen_by args.prices.now.tech args.seen.now) args.spots.now args.best cost (c.lowest_among.ensures.none c.in_default.is) in
    answered_not (asked_not pre.2 (λ e from. omega (arith, told e from)))

pub put_lead-requires : goal.put_lead-requires
put_lead-requires c = let pre = c.requires.known in (omega (arith, pre.0, pre.1), pre.4, omega (arith, (c.lowest_among.ensures.some _ c.in-Some.is).0))

pub light-requires : goal.light-requires
light-requires c =
    let fits = c.args.prices.now.fits in
    let pre = c.requires.known in
    let on = vertex_on fits _ (item_good fits pre.0 _ c.place_of-place.ensures) in
    (fits.sized, on.there, c.vertex_by-vertex.ensures, pre.2)

pub returns : goal.returns
unfolding tech_by
returns c =
    let fits = c.args.prices.now.fits in
    let pre = c.requires.known in
    let args = c.args in
    let is = c.place_of-place.ensures in
    let vertex = ap (λ (p : Place). p.vertex) is in
    let cost = item_distance fits pre.0 _ is args.bounds.now.entries args.work.now c.vertex_by-vertex.ensures pre.3 c.key_of.ensures c.of.ensures in
    let (few, least) = c.lowest_among.ensures.some _ c.in-Some.is in
    let lowest = item_lowest fits pre.0 _ is args.bounds.now.entries args.work.now (seen_by args.prices.now.tech args.seen.now) args.spots.now args.best cost least in
    let same = led_cost (tech_by args.prices.now.tech) args.bounds.now.entries args.work.now _ (omega (arith, pre.0, pre.1)) few c.put_lead.ensures in
    let lit = c.light.ensures in
    answered_led (asked_led few lowest c.put_lead.ensures (rw vertex at lit.lit) lit.stays lit.long)
    (λ other. c.lower_start.ensures.other (λ none. other (omega (arith, same, cost, none, pre.3))))
    (λ none. rw vertex at (c.lower_start.ensures.lower (omega (arith, same, cost, none))))
