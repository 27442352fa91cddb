-- `receive_shared::advance::keep_shared` meets its contract: the marks before the i-th are turned, the others are as they were. Assumes nothing.
use native.Mathlib.Omega.{arith}
use Rattle.table_graph.proofs.TurnLaws.{turn_start}
use Rattle.receive_shared.proofs.AdvanceLaws.{kept_stays, kept_goes, kept_done}
use Rattle.receive_shared.proofs.advance.keep_shared.Goals as goal
use Rattle.receive_shared.proofs.advance.keep_shared.Goals.{then-not-others-i, else-not-others-i}

pub loop-i-init : goal.loop-i-init
loop-i-init c = turn_start _ _

pub loop-i-preserved : goal.loop-i-preserved
loop-i-preserved c =
    elim c.if-not-others-i.branch [
      | then-not-others-i w ↦
          rw w.marks-is
          (kept_goes _ _ _ _ c.loop-i.invariant (omega (arith, c.loop-i-test.true, c.requires.0, c.requires.2, c.loop-i.auto.marks)) w.if-not-others-i.true)
      | else-not-others-i w ↦ rw w.marks-is (kept_stays _ _ _ _ c.loop-i.invariant w.if-not-others-i.false)
    ]

pub returns : goal.returns
returns c = kept_done _ _ _ _ c.loop-i.invariant _ _ c.loop-i-test.false (omega arith)
