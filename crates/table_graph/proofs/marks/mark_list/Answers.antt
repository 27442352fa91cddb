-- `table_graph::marks::mark_list` meets its contract: the hashes that are left, marked after those that were, are all of them marked; and where no
-- two rows have one hash, a row is marked exactly if its hash stands in the list (MarkLaws). Assumes nothing.
use mathlib.Core.Path.{sym, ◌∙◌}
use Rattle.table_graph.proofs.MarkLaws.{list_start, list_on, list_done, list_marked}
use Rattle.table_graph.proofs.marks.mark_list.Goals as goal

pub loop-k-init : goal.loop-k-init
loop-k-init c = list_start _ _ _ _ _ _

pub loop-k-preserved : goal.loop-k-preserved
loop-k-preserved c = sym (list_on _ _ _ _ _ _ _ _ c.loop-k-test.true c.mark_hash.ensures) ∙ c.loop-k.invariant

pub returns : goal.returns
returns c =
    list_marked _ _ _ _ _ c.requires.0.rows _ _ c.requires.2 (sym (list_done _ _ _ _ _ _ _ c.loop-k-test.false) ∙ c.loop-k.invariant)
