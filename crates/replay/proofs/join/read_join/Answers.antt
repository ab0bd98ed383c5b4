-- `replay::join::read_join` meets its contract.
use native.Mathlib.Omega.{arith}
use Rattle.bits.proofs.Laws.{bits_of_bits}
use Rattle.rules.specs.Structs.{tech_by}
use Rattle.counts.proofs.Counting.{fit_under}
use Rattle.replay.proofs.Parts.{read_good, passed_same}
use Rattle.replay.proofs.Joining.{start_bounds, refused_join, started_join}
use Rattle.replay.proofs.join.read_join.Goals as goal

pub read_moves-moves-requires : goal.read_moves-moves-requires
read_moves-moves-requires c =
    let b = start_bounds _ _ _ _ (bits_of_bits _) (read_good c.read_start.ensures c.in_ok-start.was) in
    let pre = c.requires in
    (pre.0, b.0, b.1, omega (arith, pre.1), fit_under _ pre.2 (omega arith))

pub overflow_mul-start : goal.overflow_mul-start
overflow_mul-start c =
    omega (arith, (start_bounds _ _ _ _ (bits_of_bits _) (read_good c.read_start.ensures c.in_ok-start.was)).1)

pub overflow_add-at-3 : goal.overflow_add-at-3
overflow_add-at-3 c =
    omega (arith, c.requires.1, (start_bounds _ _ _ _ (bits_of_bits _) (read_good c.read_start.ensures c.in_ok-start.was)).1)

pub end_join-requires : goal.end_join-requires
end_join-requires c =
    let b = start_bounds _ _ _ _ (bits_of_bits _) (read_good c.read_start.ensures c.in_ok-start.was) in
    (omega (arith, c.requires.1, b.1), c.read_moves-moves.ensures.fits)

pub returns-in_err-start : goal.returns-in_err-start
unfolding tech_by
returns-in_err-start c =
    let all = refused_join _ _ _ _ _ _ _ c.read_start.ensures _ c.in_err-start.was in
    rw (passed_same c.from_residual.ensures) (record { answer = all.0; fits = all.1.0; spots = all.1.1.0; map = all.1.1.1.0; counts = all.1.1.1.1 })

pub returns : goal.returns
unfolding tech_by
returns c =
    let read = c.read_start.ensures in
    let start = c.in_ok-start.was in
    let moves = c.read_moves-moves.ensures in
    let all = started_join _ _ _ _ _ _ _ read _ _ _ start
    (start_bounds _ _ _ _ (bits_of_bits _) (read_good read start)).1
    moves.answer moves.spots moves.map moves.counts c.end_join.ensures.answer c.end_join.ensures.fits in
    record { answer = all.0; fits = all.1.0; spots = all.1.1.0; map = all.1.1.1.0; counts = all.1.1.1.1 }
