-- `table_graph::marks::mark_deps` meets its contract: the numbers that are left, marked after those that were, are all of them marked. A number of a
-- good row is below the row's own, so it has a mark. Assumes nothing.
use mathlib.Core.Path.{sym, ◌∙◌}
use native.Mathlib.Omega.{arith}
use Rattle.table.proofs.GoodLaws.{good_down}
use Rattle.table_graph.proofs.MarkLaws.{number_member, numbers_on, numbers_done}
use Rattle.table_graph.proofs.marks.mark_deps.Goals as goal

pub bounds-marks-dep : goal.bounds-marks-dep
bounds-marks-dep c =
    let in' = number_member _ _ _ c.dep_count-j-end.ensures _ _ c.loop-j-test.true c.dep.ensures in
    omega (arith, good_down _ _ c.requires.0 c.args.i c.dep.result (omega arith) in')

pub loop-j-preserved : goal.loop-j-preserved
loop-j-preserved c =
    sym (numbers_on _ _ _ c.dep_count-j-end.ensures _ _ _ c.loop-j-test.true c.dep.ensures) ∙ c.loop-j.invariant

pub returns : goal.returns
returns c = sym (numbers_done _ _ _ c.dep_count-j-end.ensures _ _ c.loop-j-test.false) ∙ c.loop-j.invariant
