-- `plan_decide::decide::with_flag` meets its contract, case by case. Assumes nothing.
use Rattle.plan_decide.proofs.DecideLaws.{flag_on}
use Rattle.plan_decide.proofs.decide.with_flag.Goals as goal

pub returns-then-on : goal.returns-then-on
returns-then-on c =
    flag_on c.args.on c.args.flags _ c.args.flag c.if-on.true c.set.ensures
