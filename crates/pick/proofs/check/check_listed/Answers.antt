-- `pick::check::check_listed` meets its contract: the marks that were made are those of the list, so the check over marks is that of the list. Assumes nothing.
use mathlib.Core.Bool.{false}
use native.Mathlib.Omega.{arith}
use lib.ListN.{length-replicate}
use Rattle.rules.specs.Sizes.{sizes}
use Rattle.table_graph.proofs.MarkLaws.{blank, blank_or}
use Rattle.pick.proofs.check.check_listed.Goals as goal

pub check_marked-requires : goal.check_marked-requires
check_marked-requires c = (
  c.requires.0,
  c.requires.2,
  c.requires.3,
  omega (arith, c.requires.0.rows.few, length-replicate sizes.rows false, c.mark_list.auto.marks),
  omega (arith, c.requires.0.rows.few, length-replicate sizes.rows false),
  blank _ _ c.requires.0.rows.few,
)

pub returns : goal.returns
returns c =
    c.check_marked.ensures.answer _ (blank_or _ _ _ _ (blank _ _ c.requires.0.rows.few) c.mark_list.ensures)
