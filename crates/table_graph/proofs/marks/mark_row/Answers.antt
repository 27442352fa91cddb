-- `table_graph::marks::mark_row` meets its contract: it is `mark_row`'s test. Assumes nothing.
use Rattle.table_graph.proofs.MarkLaws.{row_left, row_marked}
use Rattle.table_graph.proofs.marks.mark_row.Goals as goal

pub returns-then-not-counts : goal.returns-then-not-counts
returns-then-not-counts c = row_left _ _ _ _ _ c.counts.ensures c.if-not-counts.true

pub returns : goal.returns
returns c =
    row_marked _ _ _ _ _ c.counts.ensures _ c.if-not-counts.false c.mark_deps.ensures
