-- `sample_replay::read_full` meets its contract. The buffer keeps its length, and what is read fits it. The measure is the room that is left. Assumes nothing.
use Rattle.std.proofs.Common.{length, ◌-◌, ◌≡◌, ◌≤◌}
use Rattle.sample_replay.proofs.read_full.Given as goal

abbrev pub invariant-loop-done : goal.invariant-loop-done
invariant-loop-done g l = record { len : length l.bytes ≡ length l.initial.bytes; fits : l.done ≤ length l.bytes }

abbrev pub decreases-loop-done : goal.decreases-loop-done
decreases-loop-done g l = length l.initial.bytes - l.done
