-- `table::row::dep_of` meets its contract: the numbers stand behind the count, two bytes each. Assumes nothing.
use Rattle.table.proofs.RowLaws.{number_read}
use Rattle.table.proofs.row.dep_of.Goals as goal

pub returns : goal.returns
returns c = number_read _ _ _ _ _ c.row_place.ensures _ c.u16_at.ensures
