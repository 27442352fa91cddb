-- `table_graph::heads::mark_heads` meets its contract: the rows that aren't needed are those that no row depends on. Assumes nothing.
use Rattle.table_graph.proofs.GraphMarks.{heads_marked}
use Rattle.table_graph.proofs.MarkLaws.{blank_or}
use Rattle.table_graph.proofs.heads.mark_heads.Goals as goal

pub returns : goal.returns
returns c =
    heads_marked _ _ _ _ (blank_or _ _ _ _ c.requires.2 c.mark_needed.ensures) c.flip.ensures
