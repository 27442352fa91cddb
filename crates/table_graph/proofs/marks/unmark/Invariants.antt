-- `table_graph::marks::unmark` meets its contract: the marks before the i-th are taken off where others are set, the rest are as they were. Assumes nothing.
use Prim.Native.Nat.{ℕ, ◌≤◌, ◌<◌}
use mathlib.Core.Bool.{not, false, ◌&&◌}
use mathlib.Core.Path.{◌≡◌}
use lib.ListN.{get_or}
use Rattle.table_graph.proofs.marks.unmark.Given as goal

abbrev pub invariant-loop-i : goal.invariant-loop-i
invariant-loop-i l =
    record {
      done : (k : ℕ) → k < l.i → get_or l.marks k false ≡ (get_or l.initial.marks k false && not (get_or l.others k false));
      rest : (k : ℕ) → l.i ≤ k → get_or l.marks k false ≡ get_or l.initial.marks k false;
    }
