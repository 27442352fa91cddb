-- `table_graph::marks::mark_down` meets its contract: the rows that are left, passed downward after those that were, are the whole pass (MarkLaws). Assumes
-- nothing.
use mathlib.Core.Path.{◌≡◌}
use Rattle.table.specs.TableBytes.{rows_at}
use Rattle.table.specs.Table.{deps_of}
use Rattle.table_graph.specs.Internal.Marks.{mark_down}
use Rattle.table_graph.proofs.marks.mark_down.Given as goal

abbrev pub invariant-loop-i : goal.invariant-loop-i
invariant-loop-i l =
    mark_down l.every (deps_of (rows_at l.table 0 l.n)) l.i l.marks ≡ mark_down l.every (deps_of (rows_at l.table 0 l.n)) l.n l.initial.marks
