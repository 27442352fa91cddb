-- `receive_parts::heads::mark_known` meets its contract: the row that is found for a head tells both its mark and whether it is held, and what the heads that
-- are left decide and mark is what all of them do (HeadLaws). Assumes nothing.
use Rattle.receive_parts.proofs.HeadLaws.{marking_starts, marking_unknown, marking_held, marking_alone, marking_ends}
use Rattle.receive_parts.proofs.heads.mark_known.Goals as goal
use Rattle.receive_parts.proofs.heads.mark_known.Goals.{then-row-n, else-row-n}

pub loop-k-init : goal.loop-k-init
loop-k-init c = marking_starts _ _ _ _ _ _

pub loop-k-preserved : goal.loop-k-preserved
loop-k-preserved c =
    elim c.if-row-n.branch [
      | then-row-n w ↦
          rw w.all-is
          (marking_held _ _ _ _ _ _ _ _ _ _ c.loop-k.invariant c.loop-k-test.true c.look_up-row.ensures w.if-row-n.true _ w.marks-is)
      | else-row-n w ↦
          rw (w.all-is, w.marks-is)
          (marking_unknown _ _ _ _ _ _ _ _ _ _ c.loop-k.invariant c.loop-k-test.true c.look_up-row.ensures w.if-row-n.false)
    ]

pub returns-then-sent-eq0 : goal.returns-then-sent-eq0
returns-then-sent-eq0 c = marking_alone _ _ _ _ _ _ _ _ _ c.loop-k.invariant c.loop-k-test.false _ c.if-sent-eq0.true

pub returns : goal.returns
returns c =
    marking_ends _ _ _ _ _ _ _ _ _ c.loop-k.invariant c.loop-k-test.false c.requires.0.rows c.requires.2 c.requires.3 _ _ c.mark_below.ensures
