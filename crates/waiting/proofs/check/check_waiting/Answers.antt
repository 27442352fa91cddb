-- `waiting::check::check_waiting` meets its contract: nothing that waits is good, and the order is of no account. Assumes nothing.
use Rattle.waiting.proofs.WaitingLaws.{none_waits}
use Rattle.waiting.proofs.check.check_waiting.Goals as goal

pub returns-then-waiting-eq0 : goal.returns-then-waiting-eq0
returns-then-waiting-eq0 c = none_waits _ _ c.if-waiting-eq0.true
