-- `table_graph::marked::put_marked` meets its contract: putting the hashes that are left behind those that were put gives the buffer that putting all
-- of them gives, and there is room for as many as are left. Assumes nothing.
use Prim.Native.Nat.{◌+◌, ◌*◌, ◌≤◌}
use mathlib.Core.Path.{◌≡◌}
use lib.ListN.{length}
use lib.Seq.{sets}
use Rattle.rules.specs.Hash.{hashes_bytes}
use Rattle.rules.specs.Sizes.{sizes}
use Rattle.table.specs.TableBytes.{rows_at}
use Rattle.table.specs.Table.{rows}
use Rattle.table_graph.specs.Internal.Marks.{picked}
use Rattle.table_graph.proofs.PickLaws.{pick_left}
use Rattle.table_graph.proofs.marked.put_marked.Given as goal

abbrev pub invariant-loop-i : goal.invariant-loop-i
invariant-loop-i l =
    record {
      room : l.at + sizes.hash * length (pick_left (rows (rows_at l.table 0 l.n)) l.marks l.i) ≤ length l.initial.out;
      rest :
          sets l.out l.at (hashes_bytes (pick_left (rows (rows_at l.table 0 l.n)) l.marks l.i))
          ≡ sets l.initial.out l.place (hashes_bytes (picked (rows (rows_at l.table 0 l.n)) l.marks));
    }
