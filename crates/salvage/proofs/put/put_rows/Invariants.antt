-- `salvage::put::put_rows` meets its contract: the buffer has the kept ones of the rows that were passed (PutLaws). Assumes nothing.
use mathlib.Core.List.{map}
use mathlib.Core.Path.{◌≡◌}
use lib.Seq.{sets}
use Rattle.salvage_rules.specs.KeptRows.{kept_of}
use Rattle.table.specs.TableWritten.{table_bytes_of}
use Rattle.salvage.specs.Salvaged.{new_row}
use Rattle.salvage.proofs.put.put_rows.Given as goal

abbrev pub invariant-loop-i : goal.invariant-loop-i
invariant-loop-i l =
    l.out ≡ sets l.initial.out 0 (table_bytes_of l.d (map (new_row l.d l.table (kept_of l.d l.table l.n)) (kept_of l.d l.table l.i)))
