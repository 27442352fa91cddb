-- `table_convert::convert::widen_rows` meets its contract: it is the converter in one direction. Assumes nothing.
use Rattle.table_convert.proofs.convert.widen_rows.Goals as goal

pub returns : goal.returns
returns c = c.convert.ensures
