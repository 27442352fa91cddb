-- `table_graph::marked::count_marked` meets its contract: at each mark those before it are counted. Assumes nothing.
use mathlib.Core.Path.{◌≡◌}
use Rattle.table_graph.specs.Internal.Marks.{marked}
use Rattle.table_graph.proofs.marked.count_marked.Given as goal

abbrev pub invariant-loop-mark : goal.invariant-loop-mark
invariant-loop-mark l = l.count ≡ marked l.mark-index l.fn.marks
