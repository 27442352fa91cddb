-- `table_convert::convert::narrow_rows` meets its contract: it is the converter in one direction. Assumes nothing.
use Rattle.table_convert.proofs.convert.narrow_rows.Goals as goal

pub returns : goal.returns
returns c = c.convert.ensures
