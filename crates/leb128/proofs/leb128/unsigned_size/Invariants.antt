-- `leb128::leb128::unsigned_size` meets its contract: the bytes counted and those of what is left are one more than the number's. Assumes
-- nothing.
use Prim.Native.Nat.{suc, ◌+◌, ◌^◌, ◌<◌}
use mathlib.Core.Path.{◌≡◌}
use lib.ListN.{length}
use Rattle.leb128.specs.Number.{shortest}
use Rattle.leb128.proofs.leb128.unsigned_size.Given as goal

abbrev pub invariant-loop-rest : goal.invariant-loop-rest
invariant-loop-rest l =
    record { fits : l.rest < 2 ^ 64; sum : l.size + length (shortest l.rest) ≡ suc (length (shortest l.n)) }

abbrev pub decreases-loop-rest : goal.decreases-loop-rest
decreases-loop-rest l = l.rest
