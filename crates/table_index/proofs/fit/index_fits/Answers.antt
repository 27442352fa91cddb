-- `table_index::fit::index_fits` meets its contract: as many bytes as two for each row, then the entries decide. Assumes nothing.
use mathlib.Core.Path.{sym, ◌∙◌}
use Rattle.table_index.proofs.FitLaws.{index_odd, index_even}
use Rattle.table_index.proofs.fit.index_fits.Goals as goal

pub returns-then-index-n : goal.returns-then-index-n
returns-then-index-n c = sym (index_odd _ _ _ c.if-index-n.true)

pub returns : goal.returns
returns c = c.entries_fit.ensures ∙ sym (index_even _ _ _ c.if-index-n.false)
