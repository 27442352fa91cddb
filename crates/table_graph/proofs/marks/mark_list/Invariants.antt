-- `table_graph::marks::mark_list` meets its contract: the hashes that are left, marked after those that were, are all of them marked; and where no
-- two rows have one hash, a row is marked exactly if its hash stands in the list (MarkLaws). Assumes nothing.
use Prim.Native.Nat.{◌+◌, ◌-◌, ◌*◌}
use mathlib.Core.Path.{◌≡◌}
use Rattle.rules.specs.Hash.{hashes_at}
use Rattle.rules.specs.Sizes.{sizes}
use Rattle.table.specs.TableBytes.{rows_at}
use Rattle.table.specs.Table.{rows}
use Rattle.table_graph.proofs.MarkLaws.{mark_list}
use Rattle.table_graph.proofs.marks.mark_list.Given as goal

abbrev pub invariant-loop-k : goal.invariant-loop-k
invariant-loop-k l =
    mark_list (rows (rows_at l.table 0 l.n)) l.marks (hashes_at l.l (l.place + sizes.hash * l.k) (l.count - l.k))
    ≡ mark_list (rows (rows_at l.table 0 l.n)) l.initial.marks (hashes_at l.l l.place l.count)
