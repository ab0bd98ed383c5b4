-- `search::clear::clear` meets its contract: what was touched was in the heap or in the list.
use native.Mathlib.Omega.{arith}
use Rattle.search.proofs.Laying.{laid_room}
use Rattle.search.proofs.Clearing.{cleared_listed, cleared_bare, cleared_kept}
use Rattle.search.proofs.clear.clear.Goals as goal

pub clear_heap-requires : goal.clear_heap-requires
clear_heap-requires c = c.requires.1.heaped.seated

pub clear_list-requires : goal.clear_list-requires
clear_list-requires c =
    let laid = c.requires.1 in
    let room = laid_room laid in
    (laid.heaped.seated.few, omega (arith, laid.heaped.seated.room), omega arith, cleared_listed _ laid c.clear_heap.ensures)

pub returns : goal.returns
returns c =
    let emptied = c.clear_heap.ensures in
    let unlisted = c.clear_list.ensures in
    let laid = c.requires.1 in
    record {
      bare = cleared_bare _ laid emptied _ unlisted;
      kept = cleared_kept _ laid emptied _ unlisted (omega arith);
    }
