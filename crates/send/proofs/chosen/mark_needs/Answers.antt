-- `send::chosen::mark_needs` meets its contract: the marks before the k-th are made, the others are as they were. Assumes nothing.
use native.Mathlib.Omega.{arith}
use Rattle.send.proofs.ChosenLaws.{asked_on, asked_done}
use Rattle.send.proofs.chosen.mark_needs.Goals as goal

pub loop-k-preserved : goal.loop-k-preserved
loop-k-preserved c =
    asked_on _ _ _ _ _ _ _ _ _ c.loop-k.invariant _ (omega (arith, c.loop-k-test.true, c.requires.4, c.loop-k.auto.needs)) c.held_unmarked-here.ensures

pub returns : goal.returns
returns c = asked_done _ _ _ _ _ _ _ _ _ c.loop-k.invariant _ c.loop-k-test.false
