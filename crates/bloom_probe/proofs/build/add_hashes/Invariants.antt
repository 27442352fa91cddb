-- `bloom_probe::build::add_hashes` meets its contract: adding the hashes that are left to the field as it is gives what adding all of them to the
-- field as it was gives, and the start that is held is that of the first of them. Assumes nothing.
use Prim.Native.Nat.{◌-◌, ◌*◌, ◌<◌}
use mathlib.Core.Path.{◌≡◌}
use lib.ListN.{length}
use Rattle.rules.specs.Hash.{hashes_at}
use Rattle.rules.specs.Sizes.{sizes}
use Rattle.bloom_probe.specs.Build.{add_hashes}
use Rattle.bloom_probe.specs.Internal.Start.{start_at}
use Rattle.bloom_probe.proofs.build.add_hashes.Given as goal

abbrev pub invariant-loop-i : goal.invariant-loop-i
invariant-loop-i l =
    record {
      long : length l.field ≡ length l.initial.field;
      starts : l.i < l.n → l.next ≡ start_at l.hashes (sizes.hash * l.i) l.m;
      rest : add_hashes l.probes l.field (hashes_at l.hashes (sizes.hash * l.i) (l.n - l.i)) ≡ add_hashes l.probes l.initial.field (hashes_at l.hashes 0 l.n);
    }
