-- The loop of `maizespell::input::read_full` has read no more than the slice holds, and each turn reads more.
use Rattle.std.proofs.Common.{length, ◌-◌, ◌≤◌}
use Rattle.maizespell.proofs.input.read_full.Given as goal

abbrev pub invariant-loop-done : goal.invariant-loop-done
invariant-loop-done g l = l.done ≤ length l.buf

abbrev pub decreases-loop-done : goal.decreases-loop-done
decreases-loop-done g l = length l.buf - l.done
