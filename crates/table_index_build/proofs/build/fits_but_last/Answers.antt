-- `table_index_build::build::fits_but_last` meets its contract: of no row there is no last one. Assumes nothing.
use mathlib.Core.Path.{sym, ◌∙◌}
use Rattle.table_index_build.proofs.BuildLaws.{last_none, last_some}
use Rattle.table_index_build.proofs.build.fits_but_last.Goals as goal

pub returns-then-n-eq0 : goal.returns-then-n-eq0
returns-then-n-eq0 c = sym (last_none _ _ _ c.if-n-eq0.true)

pub returns : goal.returns
returns c = c.index_fits.ensures ∙ sym (last_some _ _ _ c.if-n-eq0.false)
