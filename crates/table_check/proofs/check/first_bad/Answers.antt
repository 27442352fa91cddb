-- `table_check::check::first_bad` meets its contract: the lesser of both tests' first failures (CheckLaws). Assumes nothing.
use Rattle.table_check.proofs.CheckLaws.{bad_repeat, bad_unsound}
use Rattle.table_check.proofs.check.first_bad.Goals as goal

pub returns-then-repeat-unsound : goal.returns-then-repeat-unsound
returns-then-repeat-unsound c =
    bad_repeat _ _ _ _ _ c.first_unsound-unsound.ensures c.first_repeat-repeat.ensures c.if-repeat-unsound.true

pub returns : goal.returns
returns c =
    bad_unsound _ _ _ _ _ c.first_unsound-unsound.ensures c.first_repeat-repeat.ensures c.if-repeat-unsound.false
