-- `table_check::check::check_unfit` meets its contract: the table's own refusal goes first. Assumes nothing.
use mathlib.Core.Path.{sym}
use Rattle.table_check.proofs.CheckLaws.{unfit_refused, unfit_good}
use Rattle.rules.proofs.Cases.{handed_on}
use Rattle.table_check.proofs.check.check_unfit.Goals as goal

pub returns-in_err-check_alone : goal.returns-in_err-check_alone
returns-in_err-check_alone c = rw (handed_on c.from_residual.ensures.1) (sym (unfit_refused _ _ (sym c.in_err-check_alone.ensures)))

pub returns : goal.returns
returns c = sym (unfit_good _ _ (sym c.in_ok-check_alone.ensures))
