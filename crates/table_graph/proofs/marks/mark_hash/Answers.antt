-- `table_graph::marks::mark_hash` meets its contract: the row that is found is the hash's place, and there is one if it is below the number of rows.
-- Assumes nothing.
use Rattle.table_graph.proofs.MarkLaws.{hash_held, hash_unknown}
use Rattle.table_graph.proofs.marks.mark_hash.Goals as goal

pub returns-then-n-row : goal.returns-then-n-row
returns-then-n-row c = hash_unknown _ _ _ _ _ c.look_up-row.ensures c.if-n-row.true

pub returns : goal.returns
returns c = hash_held _ _ _ _ _ c.look_up-row.ensures c.if-n-row.false
