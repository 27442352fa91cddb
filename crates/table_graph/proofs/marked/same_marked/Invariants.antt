-- `table_graph::marked::same_marked` meets its contract: the rest of both lists decides what the whole ones do, and the index has the rows in ascending
-- order of hash (SameLaws). Assumes nothing.
use Rattle.table_graph.proofs.SameLaws.{Comparing}
use Rattle.table_graph.proofs.marked.same_marked.Given as goal

abbrev pub invariant-loop-k : goal.invariant-loop-k
invariant-loop-k l = Comparing l.table l.index l.n l.before l.marks l.bytes l.place l.many l.count l.k
