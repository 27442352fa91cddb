-- `plan_decide::decide::version_for` meets its contract, case by case. Assumes nothing.
use borrow.Author.Rules.{rules}
use Rattle.session.specs.Plan.{version_for}
use Rattle.plan_decide.proofs.decide.version_for.Goals as goal

pub returns-then-v2 : goal.returns-then-v2
unfolding version_for
returns-then-v2 c = search rules

pub returns : goal.returns
unfolding version_for
returns c = search rules
