-- `table::check::zeros_good` meets its contract: numbers are 0 where their bytes are. Assumes nothing.
use mathlib.Core.Path.{◌∙◌}
use Rattle.table.proofs.RowLaws.{unused_bytes}
use Rattle.table.proofs.check.zeros_good.Goals as goal

pub returns : goal.returns
returns c =
    c.zero_bytes.ensures ∙ unused_bytes _ _ _ _ _ c.row_place.ensures c.count_of-count.ensures
