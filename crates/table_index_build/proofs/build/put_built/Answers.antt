-- `table_index_build::build::put_built` meets its contract: the check's refusal, or the entries, which are the table's index. Assumes nothing.
use mathlib.Core.Path.{sym}
use Rattle.rules.proofs.Outputs.{refused}
use Rattle.table.proofs.WidthLaws.{wide_sized}
use Rattle.table_index_build.proofs.BuildLaws.{built_refused, built_written, index_order}
use Rattle.rules.proofs.Cases.{handed_on}
use Rattle.table_index_build.proofs.build.put_built.Goals as goal

pub check_ordered-requires : goal.check_ordered-requires
check_ordered-requires c =
    (wide_sized, c.requires.0, c.requires.1, index_order _ _ _ c.requires.1 c.requires.2 c.requires.3)

pub returns-in_err-check_ordered : goal.returns-in_err-check_ordered
returns-in_err-check_ordered c = rw (handed_on c.from_residual.ensures.1, built_refused _ _ (sym c.in_err-check_ordered.ensures)) (refused _ _)

pub returns : goal.returns
returns c =
    rw (built_written _ _ _ _ (sym c.in_ok-check_ordered.ensures) c.requires.1 c.requires.3) c.put_index.ensures
