-- `rules::overhead::overhead_of` meets its contract.
use Prim.Native.Nat.{ℕ, ◌<◌}
use mathlib.Core.Path.{◌≡◌, refl, ap, ◌∙◌}
use native.Mathlib.Omega.{arith}
use Rattle.job.specs.Structs.{grid_of, vertex_of, layer_struct}
use Rattle.job.specs.declared.groups.Layer.{Layer}
use Rattle.job.specs.declared.grid.Vertex.{Vertex as VertexStruct}
use Rattle.rules.specs.Tracks.{vertex_by}
use Rattle.rules.specs.Prices.{line_of}
use Rattle.rules.specs.Segments.{running}
use Rattle.rules.specs.Overheads.{overhead_of}
use Rattle.rules.specs.Structs.{OnGrid, track_of, segment_of, tech_by, overhead_by, FewMissing, WholeOverhead}
use Rattle.rules.specs.Charging.{Here}
use Rattle.rules.specs.declared.track.Track.{Track}
use Rattle.rules.specs.declared.price.Prices.{Prices}
use Rattle.rules.proofs.Fitting.{layer_known}
use Rattle.rules.proofs.Held.{line_fits}
use Rattle.rules.proofs.PriceLists.{line_told}
use Rattle.rules.proofs.Owed.{Owing, short_told}
use Rattle.rules.proofs.overhead.overhead_of.Goals as goal

-- its M is small
few_least : {p : Prices} {v : ℕ} {from : VertexStruct} {line : Layer} → Here p v from
    → line ≡ layer_struct (line_of (tech_by p.tech) v) → line.least < 16
few_least {p} here is = omega (arith, ap (λ (l : Layer). l.least) is, (line_fits p.fits here.there).min_length)

-- the vertex is on the grid
here_on : {p : Prices} {v : ℕ} {from : VertexStruct} → Here p v from → OnGrid p.tech.grid v
here_on {p} here = record { small = p.fits.sized.small; there = here.there }

-- the track of the vertex that the code has read is that of its number
on_track_lem : {p : Prices} {v : ℕ} {from : VertexStruct} {track : Track} → Here p v from
    → track ≡ track_of (grid_of p.tech.grid) (vertex_of from) → track ≡ track_of (grid_of p.tech.grid) (vertex_by (grid_of p.tech.grid) v)
on_track_lem {p} here is = is ∙ ap (λ (x : VertexStruct). track_of (grid_of p.tech.grid) (vertex_of x)) here.is

pub line-line-requires : goal.line-line-requires
line-line-requires c = layer_known c.requires.0

pub too_short-requires : goal.too_short-requires
too_short-requires c =
    let (here, is) = c.requires in
    let p = c.args.prices.now in
    ((p.tech.grid, p.fits.sized, here.there, on_track_lem here is), few_least here (c.line-line.ensures ∙ line_told here))

pub too_short-requires-in-Running : goal.too_short-requires-in-Running
too_short-requires-in-Running c =
    let (here, is) = c.requires in
    let p = c.args.prices.now in
    ((p.tech.grid, p.fits.sized, here.there, on_track_lem here is), few_least here (c.line-line.ensures ∙ line_told here))

pub returns-in-Fresh : goal.returns-in-Fresh
unfolding segment_of tech_by Owing
returns-in-Fresh c =
    let (here, is) = c.requires in
    let tech = c.args.prices.now.tech in
    short_told (tech_by tech) _ _ _ (rw c.in-Fresh.is tt) (c.line-line.ensures ∙ line_told here)
    (c.too_short.ensures tech.grid (here_on here) (on_track_lem here is))

pub returns-in-Running : goal.returns-in-Running
unfolding segment_of tech_by Owing
returns-in-Running c =
    let (here, is) = c.requires in
    let tech = c.args.prices.now.tech in
    rw c.in-Running.is
    (short_told (tech_by tech) _ _ (running _ _) tt (c.line-line.ensures ∙ line_told here)
    (c.too_short-in-Running.ensures tech.grid (here_on here) (on_track_lem here is)))

pub returns-in-Paid : goal.returns-in-Paid
unfolding segment_of overhead_of overhead_by FewMissing WholeOverhead
returns-in-Paid c = rw c.in-Paid.is (record { same = refl; few = tt; whole = tt })

pub returns-in-PaidToward : goal.returns-in-PaidToward
unfolding segment_of overhead_of overhead_by FewMissing WholeOverhead
returns-in-PaidToward c = rw c.in-PaidToward.is (record { same = refl; few = tt; whole = tt })
