-- `table_graph::marked::collect_marked` meets its contract: what has been put and what is left make the whole, and the index has the rows in ascending
-- order of hash (CollectLaws). Assumes nothing.
use Rattle.table_graph.proofs.CollectLaws.{Collecting}
use Rattle.table_graph.proofs.marked.collect_marked.Given as goal

abbrev pub invariant-loop-k : goal.invariant-loop-k
invariant-loop-k l = Collecting l.table l.index l.n l.before l.marks l.initial.list l.list l.count l.k
