-- `plan_decide::decide::decide` meets its contract: each test decides where those before it didn't. Assumes nothing.
use Rattle.plan_decide.proofs.DecideLaws.{needs_many, is_unknown, is_silent, sent_many, is_said}
use Rattle.plan_decide.proofs.decide.decide.Goals as goal

pub returns-then-d-gt-HASHES : goal.returns-then-d-gt-HASHES
returns-then-d-gt-HASHES c = needs_many _ _ _ _ _ c.if-d-gt-HASHES.true

pub returns-then-d : goal.returns-then-d
returns-then-d c = is_unknown _ _ _ _ _ c.if-d-gt-HASHES.false c.if-d.true c.reset.ensures

pub returns-then-d-2 : goal.returns-then-d-2
returns-then-d-2 c =
    is_silent _ _ _ _ _ c.if-d-gt-HASHES.false c.if-d.false c.if-d-2.true

pub returns-then-d-gt-SENT_HASHES : goal.returns-then-d-gt-SENT_HASHES
returns-then-d-gt-SENT_HASHES c =
    sent_many _ _ _ _ _ c.if-d-gt-HASHES.false c.if-d.false c.if-d-2.false c.if-d-gt-SENT_HASHES.true

pub returns : goal.returns
returns c =
    is_said _ _ _ _ _ c.if-d-gt-HASHES.false c.if-d.false c.if-d-2.false c.if-d-gt-SENT_HASHES.false c.says_picked.ensures
