-- `table_graph::marks::mark_below` meets its contract: the pass over the marked rows marks what is reached, since a row's mark is final when its turn comes (MarkLaws). Assumes nothing.
use Rattle.table_graph.proofs.MarkLaws.{below_marked}
use Rattle.table_graph.proofs.marks.mark_below.Goals as goal

pub returns : goal.returns
returns c =
    below_marked _ _ c.requires.0 _ _ c.requires.1 c.mark_down.ensures
