-- `table_graph::marked::count_marked` meets its contract: at each mark those before it are counted. Assumes nothing.
use native.Mathlib.Omega.{arith}
use Rattle.std.proofs.lemmas.List.{length-take, get_or-take}
use mathlib.Core.Bool.{Bool, false}
use Rattle.table_graph.proofs.PickLaws.{count_starts, count_most, count_taken, count_passed}
use Rattle.table_graph.proofs.marked.count_marked.Goals.{then-mark, else-mark}
use Rattle.table_graph.proofs.marked.count_marked.Goals as goal

pub loop-mark-init : goal.loop-mark-init
loop-mark-init c = count_starts _

pub overflow_add-count : goal.overflow_add-count
overflow_add-count c = omega (arith, count_most _ _ _ c.loop-mark.invariant)

pub loop-mark-preserved : goal.loop-mark-preserved
loop-mark-preserved c =
    let same = get_or-take c.args.n c.args.marks.now c.loop-mark.mark-index false (omega (arith, length-take {A = Bool})) in
    elim c.if-mark.branch [
      | then-mark w ↦ rw w.count-is (count_taken _ _ _ c.loop-mark.invariant cc)
      | else-mark w ↦ rw w.count-is (count_passed _ _ _ c.loop-mark.invariant cc)
    ]
