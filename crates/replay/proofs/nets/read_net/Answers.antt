-- `replay::nets::read_net` meets its contract.
use Rattle.replay.proofs.nets.read_net.Goals as goal

pub returns : goal.returns
returns c =
    let begun = c.begin_tree.ensures in
    let read = c.read_records.ensures in
    record {
      answer = rw begun at read.answer;
      fits = read.fits;
      map = rw begun at read.map;
      counts = rw begun at read.counts;
    }
