-- `send::chosen::choose` meets its contract: the marks name the definition's list (ChosenLaws), and both kinds are counted. Assumes nothing.
use native.Mathlib.Omega.{arith}
use Rattle.table_graph.proofs.PickLaws.{count_most}
use Rattle.send.proofs.ChosenLaws.{chosen_is}
use Rattle.send.proofs.chosen.choose.Goals as goal

pub unmark-requires : goal.unmark-requires
unmark-requires c =
    (omega (arith, c.requires.2, c.mark_answer.auto.marks), omega (arith, c.requires.1))

pub count_marked-requires : goal.count_marked-requires
count_marked-requires c =
    omega (arith, c.requires.4, c.mark_needs.auto.needs)

pub count_marked-requires-2 : goal.count_marked-requires-2
count_marked-requires-2 c =
    omega (arith, c.requires.2, c.mark_answer.auto.marks, c.unmark.auto.marks)

pub overflow_add-result : goal.overflow_add-result
overflow_add-result c =
    omega (arith, count_most _ _ _ c.count_marked.ensures, count_most _ _ _ c.count_marked-2.ensures, c.requires.0.few, c.requires.0.rows.rows.few)

pub returns : goal.returns
returns c =
    λ sent past. chosen_is _ _ c.requires.0.rows.rows.good _ _ _ _ sent _ _ _ _ past
    c.mark_answer.ensures
    c.mark_needs.ensures
    c.unmark.ensures
    _ _ c.count_marked.ensures c.count_marked-2.ensures
