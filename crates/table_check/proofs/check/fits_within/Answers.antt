-- `table_check::check::fits_within` meets its contract: past the limit no index fits, within it the index decides. Assumes nothing.
use mathlib.Core.Path.{◌∙◌}
use Rattle.table_check.proofs.CheckLaws.{within_past, within_fits}
use Rattle.table_check.proofs.check.fits_within.Goals as goal

pub returns-then-table : goal.returns-then-table
returns-then-table c = within_past _ _ c.if-table.true

pub returns : goal.returns
returns c = c.index_fits.ensures ∙ within_fits _ _ c.if-table.false
