-- `table_graph::marks::flip` meets its contract: the marks before the one whose turn it is are turned, the others are as they were. Assumes nothing.
use Prim.Native.Nat.{ℕ, ◌≤◌, ◌<◌}
use mathlib.Core.Bool.{not, false}
use mathlib.Core.Path.{◌≡◌}
use lib.ListN.{get_or}
use Rattle.table_graph.proofs.marks.flip.Given as goal

abbrev pub invariant-loop-mark : goal.invariant-loop-mark
invariant-loop-mark l =
    record {
      done : (k : ℕ) → k < l.mark-index → get_or l.mark-items k false ≡ not (get_or l.fn.marks k false);
      rest : (k : ℕ) → l.mark-index ≤ k → k < l.n → get_or l.mark-items k false ≡ get_or l.fn.marks k false;
    }
