-- `message_size::size::cut_chunks` meets its contract: cutting the rest from where the last chunk ended is cutting all of them. Assumes nothing.
use Prim.Native.Nat.{◌≤◌}
use native.Mathlib.Omega.{arith}
use lib.ListN.{length, get_or}
use Rattle.leb128.specs.Number.{shortest}
use Rattle.leb128.proofs.Number.{shortest_ten}
use Rattle.message_size.proofs.WriteLaws.{cutting_starts, cutting_short, cutting_on, cutting_past, cutting_all}
use Rattle.message_size.proofs.size.cut_chunks.Goals as goal

pub loop-n-init : goal.loop-n-init
loop-n-init c = cutting_starts _ _ _ c.requires c.unsigned_size-numbers.ensures

pub returns-then-chunks-end : goal.returns-then-chunks-end
returns-then-chunks-end c =
    cutting_short _ _ _ _ _ c.loop-n.invariant c.loop-n-test.true c.if-chunks-end.true

pub overflow_add-numbers : goal.overflow_add-numbers
overflow_add-numbers c =
    omega (arith, c.unsigned_size-numbers-in-loop-n.ensures, (let it : length (shortest (get_or c.args.lengths.now c.loop-n.n-index 0)) ≤ 10 = shortest_ten _ (c.type_inv.lengths c.loop-n.n-index).fits in it), c.loop-n.invariant.small, c.loop-n-test.true, c.requires)

pub loop-n-preserved : goal.loop-n-preserved
loop-n-preserved c =
    cutting_on _ _ _ _ _ c.loop-n.invariant c.loop-n-test.true _ c.if-chunks-end.false c.unsigned_size-numbers-in-loop-n.ensures (omega (arith, c.unsigned_size-numbers-in-loop-n.ensures, (let it : length (shortest (get_or c.args.lengths.now c.loop-n.n-index 0)) ≤ 10 = shortest_ten _ (c.type_inv.lengths c.loop-n.n-index).fits in it)))

pub returns-then-size-gt-MESSAGE_SIZE : goal.returns-then-size-gt-MESSAGE_SIZE
returns-then-size-gt-MESSAGE_SIZE c =
    cutting_past _ _ _ _ _ c.loop-n.invariant c.loop-n-test.false c.if-size-gt-MESSAGE_SIZE.true

pub returns : goal.returns
returns c =
    cutting_all _ _ _ _ _ c.loop-n.invariant c.loop-n-test.false c.if-size-gt-MESSAGE_SIZE.false
