-- `send_members::members::mark_s` meets its contract: the marks of the rows before row i are final, and the equation of S then says whether row i
-- joins (MemberLaws). Assumes nothing.
use Rattle.bloom.specs.Have.{haves_of}
use Rattle.table.specs.TableBytes.{rows_at}
use Rattle.table_graph.proofs.TurnLaws.{Turned}
use Rattle.send_members.proofs.MemberLaws.{member_at}
use Rattle.send_members.proofs.members.mark_s.Given as goal

abbrev pub invariant-loop-i : goal.invariant-loop-i
invariant-loop-i l =
    Turned (member_at (rows_at l.table 0 l.n) (haves_of l.bytes l.haves)) l.i l.initial.members l.members
