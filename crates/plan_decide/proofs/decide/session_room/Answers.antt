-- `plan_decide::decide::session_room` meets its contract: the first buffer that is too short decides. Assumes nothing.
use Rattle.plan_decide.proofs.DecideLaws.{last_short, sent_short, session_enough}
use Rattle.plan_decide.proofs.decide.session_room.Goals as goal

pub returns-then-r-heads : goal.returns-then-r-heads
returns-then-r-heads c = last_short _ _ _ c.if-r-heads.true

pub returns-then-r-hashes : goal.returns-then-r-hashes
returns-then-r-hashes c = sent_short _ _ _ c.if-r-heads.false c.if-r-hashes.true

pub returns : goal.returns
returns c = session_enough _ _ _ c.if-r-heads.false c.if-r-hashes.false
