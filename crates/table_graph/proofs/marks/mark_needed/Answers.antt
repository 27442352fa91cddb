-- `table_graph::marks::mark_needed` meets its contract: the pass over every row marks each row that some row depends on (MarkLaws). Assumes nothing.
use Rattle.table_graph.proofs.MarkLaws.{needed_marked}
use Rattle.table_graph.proofs.marks.mark_needed.Goals as goal

pub returns : goal.returns
returns c =
    needed_marked _ _ _ _ c.requires.1 c.mark_down.ensures
