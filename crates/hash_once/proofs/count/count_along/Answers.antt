-- `hash_once::count::count_along` meets its contract: what is left of the count is as many as there are, and those that stand there again from entry k on
-- (CountLaws). Assumes nothing.
use native.Mathlib.Omega.{arith}
use Rattle.hash_once.proofs.CountLaws.{counting_starts, counting_again, counting_other, counting_ends}
use Rattle.hash_once.proofs.count.count_along.Goals as goal
use Rattle.hash_once.proofs.count.count_along.Goals.{then-named_again, else-named_again}

pub loop-k-init : goal.loop-k-init
loop-k-init c = counting_starts _ _ _ c.requires

pub overflow_sub-once : goal.overflow_sub-once
overflow_sub-once c =
    omega (arith, counting_again _ _ _ _ c.loop-k-test.true _ c.named_again.ensures _ _ c.if-named_again.true c.loop-k.invariant)

pub loop-k-preserved : goal.loop-k-preserved
loop-k-preserved c =
    elim c.if-named_again.branch [
      | then-named_again w ↦ omega (arith, counting_again _ _ _ _ c.loop-k-test.true _ c.named_again.ensures _ _ w.if-named_again.true c.loop-k.invariant)
      | else-named_again w ↦ omega (arith, counting_other _ _ _ _ c.loop-k-test.true _ c.named_again.ensures _ _ w.if-named_again.false c.loop-k.invariant)
    ]

pub returns : goal.returns
returns c = counting_ends _ _ _ _ _ _ c.loop-k-test.false c.loop-k.invariant
