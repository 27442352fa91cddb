-- `counts::tested::test_rows` meets its contract: the rows before row i are counted (Counting). Assumes nothing.
use Prim.Native.Nat.{◌+◌, ◌*◌, ◌≤◌}
use native.Mathlib.Omega.{arith}
use lib.ListN.{length}
use Rattle.rules.specs.Sizes.{sizes}
use Rattle.table.specs.TableBytes.{row_size}
use Rattle.table_index.proofs.HalveLaws.{record-inside}
use Rattle.counts.proofs.TestedLaws.{counting_starts, counting_on, counting_ends, next_few, next_fewer}
use Rattle.counts.proofs.tested.test_rows.Goals as goal

pub loop-i-init : goal.loop-i-init
loop-i-init c = record { few = omega arith; fewer = omega arith; counting = counting_starts _ _ _ _ }

pub tested_next-tested-requires : goal.tested_next-tested-requires
tested_next-tested-requires c =
    (c.requires.0, (let it : c.loop-i.i * row_size + sizes.hash ≤ length c.args.table.now = record-inside _ _ _ _ c.loop-i-test.true c.requires.1 (omega arith) in it), omega (arith, c.loop-i.invariant.few, c.loop-i-test.true, c.requires.2), omega (arith, c.loop-i.invariant.fewer, c.loop-i-test.true, c.requires.2))

pub loop-i-preserved : goal.loop-i-preserved
loop-i-preserved c =
    record {
      few = rw c.tested_next-tested.ensures (next_few _ _ _ _ c.loop-i.invariant.few);
      fewer = rw c.tested_next-tested.ensures (next_fewer _ _ _ _ c.loop-i.invariant.fewer);
      counting = rw c.tested_next-tested.ensures (counting_on _ _ _ _ _ _ c.loop-i-test.true c.loop-i.invariant.counting);
    }

pub returns : goal.returns
returns c =
    counting_ends _ _ _ _ _ _ (omega arith) c.loop-i-test.false c.loop-i.invariant.counting
