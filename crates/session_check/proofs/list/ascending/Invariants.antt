-- `session_check::list::ascending` meets its contract: the hashes from the one before number i on decide what all of them do. Assumes nothing.
use mathlib.Core.Path.{◌≡◌}
use Rattle.hash_order.specs.Order.{ascends}
use Rattle.rules.specs.Hash.{hashes_at}
use Rattle.session_check.proofs.GoodLaws.{climbing}
use Rattle.session_check.proofs.list.ascending.Given as goal

abbrev pub invariant-loop-i : goal.invariant-loop-i
invariant-loop-i l = climbing l.bytes l.count l.i ≡ ascends (hashes_at l.bytes 0 l.count)
