-- `table_graph::marks::mark_picked` meets its contract: the picked hashes that are left, marked after those that were, are all of them marked (PickedMarks).
-- Assumes nothing.
use Rattle.table_graph.proofs.PickedMarks.{picking_starts, picking_passed, picking_taken, picking_ends}
use Rattle.table_graph.proofs.marks.mark_picked.Goals.{then-picks-k, else-picks-k}
use Rattle.table_graph.proofs.marks.mark_picked.Goals as goal

pub loop-k-init : goal.loop-k-init
loop-k-init c = picking_starts _ _ _ _ _ _

pub loop-k-preserved : goal.loop-k-preserved
loop-k-preserved c =
    elim c.if-picks-k.branch [
      | then-picks-k w ↦ rw w.marks-is (picking_taken _ _ _ _ _ _ _ _ c.loop-k.invariant c.loop-k-test.true w.if-picks-k.true _ w.mark_hash.ensures)
      | else-picks-k w ↦ rw w.marks-is (picking_passed _ _ _ _ _ _ _ _ c.loop-k.invariant c.loop-k-test.true w.if-picks-k.false)
    ]

pub returns : goal.returns
returns c =
    picking_ends _ _ _ _ _ _ _ _ c.loop-k.invariant c.loop-k-test.false c.requires.0.rows c.requires.3
