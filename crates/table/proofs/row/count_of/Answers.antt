-- `table::row::count_of` meets its contract: the count stands behind the hash. Assumes nothing.
use Rattle.table.proofs.RowLaws.{count_read}
use Rattle.table.proofs.row.count_of.Goals as goal

pub returns : goal.returns
returns c = count_read _ _ _ _ _ c.row_place.ensures c.u16_at.ensures
