-- `table_check::check::check_indexed` meets its contract: beside an index that fits the rows' own bytes decide, beside another one, or past the
-- limit, the table alone does (CheckLaws). Assumes nothing.
use mathlib.Core.Path.{sym, ◌∙◌}
use Rattle.table.proofs.WidthLaws.{wide_sized}
use Rattle.table_index.proofs.CheckLaws.{fit_decides}
use Rattle.table_check.proofs.CheckLaws.{fit_sound, within_both, within_neither}
use Rattle.table_check.proofs.check.check_indexed.Goals as goal

pub returns-then-not-fits_within : goal.returns-then-not-fits_within
returns-then-not-fits_within c =
    c.check_unfit.ensures ∙ sym (within_neither _ _ (sym c.fits_within.ensures ∙ c.if-not-fits_within.true))

pub answer-requires : goal.answer-requires
answer-requires c =
    let w = within_both _ _ (sym c.fits_within.ensures ∙ c.if-not-fits_within.false) in
    (wide_sized, w.0, fit_sound _ _ _ w.1 _ c.first_unsound.ensures)

pub returns : goal.returns
returns c =
    let w = within_both _ _ (sym c.fits_within.ensures ∙ c.if-not-fits_within.false) in
    c.answer.ensures ∙ sym (fit_decides _ _ w.1)
