-- `table_check::check::check_alone` meets its contract: it is the check at one width. Assumes nothing.
use native.Mathlib.Omega.{arith}
use Rattle.table.proofs.WidthLaws.{wide_sized}
use Rattle.table_check.proofs.check.check_alone.Goals as goal

pub check_as-requires : goal.check_as-requires
check_as-requires c = (wide_sized, omega arith)

pub returns : goal.returns
returns c = c.check_as.ensures
