-- `plan_decide::decide::count_if` meets its contract, case by case. Assumes nothing.
use Rattle.plan_decide.proofs.DecideLaws.{count_some, count_none}
use Rattle.plan_decide.proofs.decide.count_if.Goals as goal

pub returns-then-some : goal.returns-then-some
returns-then-some c = count_some _ _ c.if-some.true

pub returns : goal.returns
returns c = count_none _ _ c.if-some.false
