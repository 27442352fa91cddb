-- `sample_replay::walk::walk` meets its contract. The loop's invariant, `Replaying`: what is counted and what the walk from here meets are the whole walk's
-- counts. The measure is what is left of the bytes. Assumes nothing.
use Prim.Native.Nat.{◌-◌}
use lib.ListN.{length}
use Rattle.sample_replay.proofs.Walks.{Replaying}
use Rattle.sample_replay.proofs.walk.walk.Given as goal

abbrev pub invariant-loop-kind : goal.invariant-loop-kind
invariant-loop-kind l = Replaying l.bytes l.counts

abbrev pub decreases-loop-kind : goal.decreases-loop-kind
decreases-loop-kind l = length l.bytes - l.counts.end
