-- `leb128::leb128::put_unsigned` meets its contract: putting the shortest form of what is left at `i` gives the buffer that putting all of it
-- at `at` gives. Assumes nothing.
use Prim.Native.Nat.{◌+◌, ◌^◌, ◌<◌}
use mathlib.Core.Path.{◌≡◌}
use lib.ListN.{length}
use lib.Seq.{sets}
use Rattle.leb128.specs.Number.{shortest}
use Rattle.leb128.proofs.leb128.put_unsigned.Given as goal

abbrev pub invariant-loop-rest : goal.invariant-loop-rest
invariant-loop-rest l =
    record {
      fits : l.rest < 2 ^ 64;
      long : length l.out ≡ length l.initial.out;
      room : l.i + length (shortest l.rest) ≡ l.at + length (shortest l.n);
      same : sets l.out l.i (shortest l.rest) ≡ sets l.initial.out l.at (shortest l.n);
    }

abbrev pub decreases-loop-rest : goal.decreases-loop-rest
decreases-loop-rest l = l.rest
