-- `plan_decide::decide::tells_reset` meets its contract, case by case. Assumes nothing.
use Rattle.plan_parts.proofs.TestLaws.{first_fails, second_decides}
use Rattle.plan_decide.proofs.decide.tells_reset.Goals as goal

pub returns-then-not-needs_reset : goal.returns-then-not-needs_reset
returns-then-not-needs_reset c = first_fails c.args.needs_reset c.args.supports_reset c.if-not-needs_reset.true

pub returns : goal.returns
returns c = second_decides c.args.needs_reset c.args.supports_reset c.if-not-needs_reset.false
