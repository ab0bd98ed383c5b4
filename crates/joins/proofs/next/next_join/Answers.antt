-- `joins::next::next_join` meets its contract.
use Prim.Native.Nat.{ℕ}
use lib.ListN.{length-replicate}
use Rattle.rules.specs.Structs.{tech_by}
use Rattle.metal.proofs.Slices.{beyond_trans}
use Rattle.bounds.proofs.Coordinates.{bare_small}
use Rattle.joins.proofs.Joining.{written_joined}
use Rattle.joins.proofs.Records.{work_back}
use Rattle.joins.proofs.Pins.{record_fewer}
use Rattle.joins.proofs.next.next_join.Goals as goal

pub invariant_of-bounds : goal.invariant_of-bounds
invariant_of-bounds c = record { small = bare_small 528 }

pub fill_bounds-requires : goal.fill_bounds-requires
fill_bounds-requires c = c.requires.3

pub settle-found-requires : goal.settle-found-requires
settle-found-requires c =
    (c.requires.0, length-replicate {A = ℕ} 16384 0, c.fill_bounds.ensures.0)

pub retrace_found-cheapest-requires : goal.retrace_found-cheapest-requires
retrace_found-cheapest-requires c =
    (c.settle-found.ensures.found, c.settle-found.ensures.below, c.fill_bounds.ensures.0)

pub write_join-joined-requires : goal.write_join-joined-requires
write_join-joined-requires c = let pre = c.requires in (c.retrace_found-cheapest.ensures.told, pre.1, pre.2)

pub clear-requires : goal.clear-requires
clear-requires c = rw c.places-n.ensures c.retrace_found-cheapest.ensures.laid

pub returns : goal.returns
unfolding tech_by
returns c =
    let pre = c.requires in
    let written = c.write_join-joined.ensures in
    let cleared = c.clear.ensures in
    record {
      written = λ tree unjoined led apart. written_joined _ _ _ _ _ _ _ c.args.prices.now.fits.good written tree unjoined led apart;
      fits = written.fits;
      fewer = λ v is. record_fewer _ _ _ _ v _ (rw written.tree at is);
      work = work_back c.places-n.ensures pre.0 cleared.bare cleared.kept (beyond_trans c.retrace_found-cheapest.ensures.kept c.settle-found.ensures.kept);
    }
