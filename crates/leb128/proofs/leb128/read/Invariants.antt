-- `leb128::leb128::read` meets its contract: in the loop's state, what is left to read is still the number at `at` (`reading`), and each
-- branch is one law of it. Nothing overflows, as value + b * scale is at most `most` once the second test has passed. Assumes nothing.
use Prim.Native.Nat.{◌^◌, ◌≤◌, ◌<◌}
use mathlib.Core.Path.{◌≡◌}
use Rattle.leb128.specs.Number.{number_at}
use Rattle.leb128.proofs.Number.{reading}
use Rattle.leb128.proofs.leb128.read.Given as goal

abbrev pub invariant-loop-i : goal.invariant-loop-i
invariant-loop-i l =
    record {
      small : l.value ≤ l.most;
      power : l.scale ≡ 2 ^ l.shift;
      short : l.shift < 64;
      rest : reading l.most l.bytes l.at l.end l.i l.least l.value l.scale ≡ number_at l.most l.bytes l.at l.end;
    }
