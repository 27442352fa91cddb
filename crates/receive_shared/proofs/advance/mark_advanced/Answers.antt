-- `receive_shared::advance::mark_advanced` meets its contract: one mark after the other (AdvanceLaws). Assumes nothing.
use mathlib.Core.Bool.{false}
use native.Mathlib.Omega.{arith}
use lib.ListN.{length-replicate}
use Rattle.rules.specs.Sizes.{sizes}
use Rattle.table_graph.proofs.MarkLaws.{blank}
use Rattle.receive_shared.proofs.AdvanceLaws.{advanced_marks}
use Rattle.receive_shared.proofs.advance.mark_advanced.Goals as goal

pub mark_list-requires : goal.mark_list-requires
mark_list-requires c =
    (c.requires.0, omega (arith, c.requires.2), omega (arith, length-replicate sizes.rows false, c.requires.0.rows.few))

pub mark_heads-requires : goal.mark_heads-requires
mark_heads-requires c = (c.requires.0.rows, c.requires.4, c.requires.5)

pub keep_shared-requires : goal.keep_shared-requires
keep_shared-requires c =
    (c.requires.1, omega (arith, length-replicate sizes.rows false, c.requires.0.rows.few, c.mark_list.auto.marks), omega (arith, c.requires.4, c.mark_heads.auto.marks))

pub mark_list-requires-2 : goal.mark_list-requires-2
mark_list-requires-2 c =
    (c.requires.0, c.requires.3, omega (arith, c.requires.4, c.mark_heads.auto.marks, c.keep_shared.auto.marks))

pub returns : goal.returns
returns c =
    advanced_marks _ _ _ _ _ _ _ _ _ _ (blank _ sizes.rows c.requires.0.rows.few) c.mark_list.ensures
    c.mark_heads.ensures c.keep_shared.ensures c.mark_list-2.ensures
