-- `table_graph::marks::mark_down` meets its contract: the rows that are left, passed downward after those that were, are the whole pass (MarkLaws). Assumes
-- nothing.
use mathlib.Core.Path.{sym, ◌∙◌}
use native.Mathlib.Omega.{arith}
use Rattle.table.proofs.GoodLaws.{good_part}
use Rattle.table_graph.proofs.MarkLaws.{down_on, down_done}
use Rattle.table_graph.proofs.marks.mark_down.Goals as goal

pub mark_row-requires : goal.mark_row-requires
mark_row-requires c = (good_part _ _ _ c.requires.0 (omega arith), omega arith)

pub loop-i-preserved : goal.loop-i-preserved
loop-i-preserved c =
    sym (down_on _ _ _ _ _ _ c.loop-i-test.true c.loop-i.auto.i c.mark_row.ensures) ∙ c.loop-i.invariant

pub returns : goal.returns
returns c = sym (down_done _ _ _ _ _ c.loop-i-test.false) ∙ c.loop-i.invariant
