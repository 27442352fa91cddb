-- `plan_put::field::add_marked` meets its contract: adding the marked rows that are left to the field as it is gives what adding all of them to the
-- field as it was gives, and the start that is held is that of the first of them. Assumes nothing.
use Prim.Native.Nat.{◌-◌, ◌*◌, ◌≤◌, ◌<◌}
use mathlib.Core.Bool.{true, false}
use mathlib.Core.Path.{◌≡◌}
use lib.ListN.{length, get_or}
use Rattle.table_graph.specs.Internal.Marks.{picked}
use Rattle.table_graph.proofs.PickLaws.{pick_left}
use Rattle.bloom_probe.specs.Build.{add_hashes}
use Rattle.bloom_probe.specs.Internal.Start.{start_at}
use Rattle.table.specs.TableBytes.{row_size, rows_at}
use Rattle.table.specs.Table.{rows}
use Rattle.plan_put.proofs.field.add_marked.Given as goal

abbrev pub invariant-loop-row : goal.invariant-loop-row
invariant-loop-row l =
    record {
      upto : l.row ≤ l.n;
      is : l.row < l.n → get_or l.marks l.row false ≡ true;
      few : length (pick_left (rows (rows_at l.table 0 l.n)) l.marks l.row) ≤ l.m;
      long : length l.field ≡ length l.initial.field;
      starts : l.row < l.n → l.next ≡ start_at l.table (l.row * row_size) l.m;
      rest :
          add_hashes l.probes l.field (pick_left (rows (rows_at l.table 0 l.n)) l.marks l.row)
          ≡ add_hashes l.probes l.initial.field (picked (rows (rows_at l.table 0 l.n)) l.marks);
    }

abbrev pub decreases-loop-row : goal.decreases-loop-row
decreases-loop-row l = l.n - l.row
