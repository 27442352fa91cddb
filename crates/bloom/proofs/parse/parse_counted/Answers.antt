-- `bloom::parse::parse_counted` meets its contract: what is left behind a filter that was read. Assumes nothing.
use mathlib.Core.Path.{sym}
use Rattle.rules.proofs.Cases.{handed_on}
use Rattle.bloom.proofs.IgnoredLaws.{counted_read, counted_refused}
use Rattle.bloom.proofs.parse.parse_counted.Goals as goal

pub returns-in_err-filter : goal.returns-in_err-filter
returns-in_err-filter c = rw (handed_on c.from_residual.ensures.1) (counted_refused _ _ _ _ (sym c.in_err-filter.ensures))

pub returns : goal.returns
returns c = counted_read _ _ _ _ _ _ (sym c.in_ok-filter.ensures) c.left-ignored.ensures
