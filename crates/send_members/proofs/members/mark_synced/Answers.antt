-- `send_members::members::mark_synced` meets its contract: the rows of the last-sync hashes are the base of what is below them. Assumes nothing.
use Rattle.table_graph.proofs.GraphMarks.{below_list}
use Rattle.send_members.proofs.members.mark_synced.Goals as goal

pub returns : goal.returns
returns c =
    below_list _ _ _ _ _ c.mark_syncs.ensures c.mark_below.ensures
