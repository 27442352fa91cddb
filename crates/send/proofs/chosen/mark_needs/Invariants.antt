-- `send::chosen::mark_needs` meets its contract: the marks before the k-th are made, the others are as they were. Assumes nothing.
use Rattle.table_graph.proofs.TurnLaws.{Turned}
use Rattle.send.proofs.ChosenLaws.{asking}
use Rattle.send.proofs.chosen.mark_needs.Given as goal

abbrev pub invariant-loop-k : goal.invariant-loop-k
invariant-loop-k l = Turned (asking l.table l.n l.need l.place l.members l.past) l.k l.initial.needs l.needs
