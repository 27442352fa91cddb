-- `table_graph::marks::mark_deps` meets its contract: the numbers that are left, marked after those that were, are all of them marked. A number of a
-- good row is below the row's own, so it has a mark. Assumes nothing.
use mathlib.Core.Path.{◌≡◌}
use lib.ListN.{drop}
use Rattle.table.specs.TableBytes.{used_at}
use Rattle.table_graph.specs.Internal.Marks.{mark_all}
use Rattle.table_graph.proofs.marks.mark_deps.Given as goal

abbrev pub invariant-loop-j : goal.invariant-loop-j
invariant-loop-j l = mark_all l.marks (drop l.j (used_at l.table l.i)) ≡ mark_all l.initial.marks (used_at l.table l.i)
