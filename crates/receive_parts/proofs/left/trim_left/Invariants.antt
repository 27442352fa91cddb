-- `receive_parts::left::trim_left` meets its contract: what has been moved and what is left make the whole, and what is still to be read is as it was
-- (LeftLaws). Assumes nothing.
use mathlib.Core.Bool.{not}
use Rattle.table.specs.TableBytes.{rows_at}
use Rattle.receive_parts.specs.Internal.ReceiveParts.{held_marked}
use Rattle.receive_parts.proofs.LeftLaws.{Trimming}
use Rattle.receive_parts.proofs.left.trim_left.Given as goal

abbrev pub invariant-loop-k : goal.invariant-loop-k
invariant-loop-k l = Trimming (λ h. not (held_marked (rows_at l.table 0 l.n) l.marks h)) l.initial.sent l.count l.sent l.left l.k
