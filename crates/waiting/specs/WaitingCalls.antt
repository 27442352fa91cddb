-- A change table, its index and a waiting table checked one after the other, refusals in the order of 01 and, for 12, of 02, M-100: 4 and 6 for the
-- change table, 12 for its index, then 4 and 9 for the waiting table.
use Rattle.std.specs.Prelude.{ℕ, List, Result}
use Rattle.table_index.specs.Index.{index_checked}
use Rattle.table.specs.TableBytes.{table_of}
use Rattle.table.specs.TableCalls.{passed_on}
use Rattle.waiting.specs.WaitingBytes.{waiting_checked}
use Rattle.rules.specs.declared.refusal.Refusal.{Refusal}

-- Both tables: the change table's 4 and 6 and its index's 12 come before the waiting table's 4 and 9.
unfoldable pub tables_checked : List ℕ → List ℕ → List ℕ → Result ℕ Refusal
tables_checked s x w = passed_on (index_checked s x) (waiting_checked (table_of s) w)
