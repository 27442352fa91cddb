-- `table::row::row_place` meets its contract: the row's end fits, so its start does. Assumes nothing.
use Rattle.table.proofs.RowLaws.{row_starts, row_start_fits}
use Rattle.table.proofs.row.row_place.Goals as goal

pub overflow_mul-result : goal.overflow_mul-result
overflow_mul-result c = record { fits = row_start_fits _ _ _ c.row_size.ensures _ c.requires }

pub returns : goal.returns
returns c = row_starts _ _ _ c.row_size.ensures
