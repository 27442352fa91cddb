-- `table_graph::beyond::mark_at_or_below` meets its contract: the list's marks, made where none was, are the base of what is below it. Assumes nothing.
use Rattle.table_graph.proofs.GraphMarks.{below_blank}
use Rattle.table_graph.proofs.beyond.mark_at_or_below.Goals as goal

pub returns : goal.returns
returns c =
    below_blank _ _ _ _ _ _ c.requires.3 c.mark_list.ensures c.mark_below.ensures
