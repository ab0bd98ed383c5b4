-- `routing::net::route_net` meets its contract.
use Rattle.job.specs.Structs.{grid_of}
use Rattle.tree.proofs.Spots.{begun_among}
use Rattle.routing.proofs.net.route_net.Goals as goal

pub route_records-requires : goal.route_records-requires
route_records-requires c =
    let pre = c.requires in
    let known = begun_among (grid_of c.args.prices.now.tech.grid) _ c.args.prices.now.fits.sized.vertices pre.2.on_grid in (
      pre.0,
      pre.1,
      record { there = pre.2; on_grid = pre.5; known = λ v h is. known v h (rw c.begin_tree.ensures at is) },
      pre.3,
      pre.4,
    )

pub returns : goal.returns
returns c =
    let begun = c.begin_tree.ensures in
    let routed = c.route_records.ensures in
    record {
      answer = rw begun at routed.answer;
      fits = routed.fits;
      work = routed.work;
    }
