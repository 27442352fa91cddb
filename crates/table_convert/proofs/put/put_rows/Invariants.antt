-- `table_convert::put::put_rows` meets its contract: putting the rows that are left behind those that were put gives the buffer that putting all of
-- them gives (PutLaws). Assumes nothing.
use mathlib.Core.Path.{◌≡◌}
use lib.ListN.{length}
use lib.Seq.{sets}
use Rattle.table.specs.TableBytes.{rows_of}
use Rattle.table.specs.TableWritten.{table_bytes_of}
use Rattle.table_convert.proofs.PutLaws.{rows_left}
use Rattle.table_convert.proofs.put.put_rows.Given as goal

abbrev pub invariant-loop-i : goal.invariant-loop-i
invariant-loop-i l =
    record {
      long : length l.out ≡ length l.initial.out;
      rest : rows_left l.from l.to l.table l.n l.out l.i ≡ sets l.initial.out 0 (table_bytes_of l.to (rows_of l.from l.table 0 l.n));
    }
