-- `receive_shared::advance::keep_shared` meets its contract: the marks before the i-th are turned, the others are as they were. Assumes nothing.
use Rattle.table_graph.proofs.TurnLaws.{Turned}
use Rattle.receive_shared.proofs.AdvanceLaws.{on}
use Rattle.receive_shared.proofs.advance.keep_shared.Given as goal

abbrev pub invariant-loop-i : goal.invariant-loop-i
invariant-loop-i l = Turned (on l.others) l.i l.initial.marks l.marks
