-- `receive_shared::advance::count_advanced` meets its contract: as many as are marked (AdvanceLaws). Assumes nothing.
use mathlib.Core.Bool.{false}
use mathlib.Core.Path.{◌∙◌}
use native.Mathlib.Omega.{arith}
use lib.ListN.{length-replicate}
use Rattle.rules.specs.Sizes.{sizes}
use Rattle.table_graph.proofs.MarkLaws.{blank}
use Rattle.receive_shared.proofs.AdvanceLaws.{shared_marked}
use Rattle.receive_shared.proofs.advance.count_advanced.Goals as goal

pub mark_advanced-requires : goal.mark_advanced-requires
mark_advanced-requires c =
    (c.requires.0, c.requires.1, c.requires.2, c.requires.3, omega (arith, length-replicate sizes.rows false, c.requires.0.rows.few), blank _ sizes.rows c.requires.0.rows.few)

pub count_marked-requires : goal.count_marked-requires
count_marked-requires c = omega (arith, length-replicate sizes.rows false, c.requires.0.rows.few, c.mark_advanced.auto.marks)

pub returns : goal.returns
returns c = c.count_marked.ensures ∙ shared_marked _ _ _ c.requires.0.rows c.requires.1 _ _ _ c.mark_advanced.ensures
