-- `counts::tested::test_rows` meets its contract: the rows before row i are counted (Counting). Assumes nothing.
use Prim.Native.Nat.{◌≤◌}
use Rattle.bloom.specs.Have.{filters_of}
use Rattle.bloom_probe.specs.Contains.{any_contains}
use Rattle.counts.proofs.TestedLaws.{Counting}
use Rattle.counts.proofs.tested.test_rows.Given as goal

abbrev pub invariant-loop-i : goal.invariant-loop-i
invariant-loop-i l =
    record {
      few : l.tested.rows ≤ l.i;
      fewer : l.tested.contained ≤ l.i;
      counting : Counting l.marks (any_contains (filters_of l.bytes l.haves)) l.table l.n l.i l.tested;
    }
