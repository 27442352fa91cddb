-- `receive_parts::left::count_left` meets its contract: what has been counted and what is left make the whole (LeftLaws). Assumes nothing.
use mathlib.Core.Bool.{not}
use Rattle.table.specs.TableBytes.{rows_at}
use Rattle.receive_parts.specs.Internal.ReceiveParts.{held_marked}
use Rattle.receive_parts.proofs.LeftLaws.{Counting}
use Rattle.receive_parts.proofs.left.count_left.Given as goal

abbrev pub invariant-loop-k : goal.invariant-loop-k
invariant-loop-k l = Counting (λ h. not (held_marked (rows_at l.table 0 l.n) l.marks h)) l.sent l.count l.left l.k
