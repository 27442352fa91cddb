-- `plan_decide::decide::heads_for` meets its contract, case by case. Assumes nothing.
use Rattle.plan_decide.proofs.DecideLaws.{no_reset, reset_told, reset_shown}
use Rattle.plan_decide.proofs.decide.heads_for.Goals as goal

pub returns-then-not-needs_reset : goal.returns-then-not-needs_reset
returns-then-not-needs_reset c = no_reset _ _ _ c.if-not-needs_reset.true

pub returns-then-supports_reset : goal.returns-then-supports_reset
returns-then-supports_reset c = reset_told _ _ _ c.if-not-needs_reset.false c.if-supports_reset.true

pub returns : goal.returns
returns c = reset_shown _ _ _ c.if-not-needs_reset.false c.if-supports_reset.false
