-- `table_graph::marks::mark_picked` meets its contract: the picked hashes that are left, marked after those that were, are all of them marked (PickedMarks).
-- Assumes nothing.
use Rattle.table_graph.proofs.PickedMarks.{Picking}
use Rattle.table_graph.proofs.marks.mark_picked.Given as goal

abbrev pub invariant-loop-k : goal.invariant-loop-k
invariant-loop-k l = Picking l.table l.n l.l l.count l.picks l.initial.marks l.marks l.k
