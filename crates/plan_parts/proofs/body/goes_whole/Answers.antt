-- `plan_parts::body::goes_whole` meets its contract. Assumes nothing.
use Rattle.plan_parts.proofs.TestLaws.{first_fails, second_decides}
use Rattle.plan_parts.proofs.body.goes_whole.Goals as goal

pub returns-then-not-v2 : goal.returns-then-not-v2
returns-then-not-v2 c = first_fails c.args.v2 c.args.reason c.if-not-v2.true

pub returns : goal.returns
returns c = second_decides c.args.v2 c.args.reason c.if-not-v2.false
