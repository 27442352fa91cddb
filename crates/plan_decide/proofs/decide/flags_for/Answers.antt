-- `plan_decide::decide::flags_for` meets its contract: flags that are added one after the other are their sum. Assumes nothing.
use Rattle.plan_decide.proofs.DecideLaws.{understands, flags_said}
use Rattle.plan_decide.proofs.decide.flags_for.Goals as goal

pub returns : goal.returns
returns c =
    flags_said _ _ c.set-understands.result c.with_flag-flags.result _ (understands _ _ c.new.ensures c.set-understands.ensures)
    c.with_flag-flags.ensures c.with_flag.ensures
