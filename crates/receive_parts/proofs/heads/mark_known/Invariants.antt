-- `receive_parts::heads::mark_known` meets its contract: the row that is found for a head tells both its mark and whether it is held, and what the heads that
-- are left decide and mark is what all of them do (HeadLaws). Assumes nothing.
use Rattle.receive_parts.proofs.HeadLaws.{Marking}
use Rattle.receive_parts.proofs.heads.mark_known.Given as goal

abbrev pub invariant-loop-k : goal.invariant-loop-k
invariant-loop-k l = Marking l.table l.n l.message l.place l.many l.initial.marks l.marks l.all l.k
