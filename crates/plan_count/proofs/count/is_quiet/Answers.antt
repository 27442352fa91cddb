-- `plan_count::count::is_quiet` meets its contract: the tests in turn. Assumes nothing.
use Rattle.plan_count.proofs.CountLaws.{quiet_is}
use Rattle.plan_count.proofs.count.is_quiet.Goals as goal

pub returns : goal.returns
returns c =
    quiet_is _ _ _ _ _ _ _ _ c.is_told-told.ensures c.heard_as-equal.ensures c.is_silent.ensures
