-- `plan_decide::decide::message_room` meets its contract: the first buffer that is too short decides. Assumes nothing.
use Rattle.plan_decide.proofs.DecideLaws.{heads_short, need_short, have_short, list_short, message_enough}
use Rattle.plan_decide.proofs.decide.message_room.Goals as goal

pub returns-then-r-heads : goal.returns-then-r-heads
returns-then-r-heads c = heads_short _ _ c.if-r-heads.true

pub returns-then-r-need : goal.returns-then-r-need
returns-then-r-need c = need_short _ _ c.if-r-heads.false c.if-r-need.true

pub returns-then-r-have : goal.returns-then-r-have
returns-then-r-have c =
    have_short _ _ c.if-r-heads.false c.if-r-need.false c.if-r-have.true

pub returns-then-r-list : goal.returns-then-r-list
returns-then-r-list c =
    list_short _ _ c.if-r-heads.false c.if-r-need.false c.if-r-have.false c.if-r-list.true

pub returns : goal.returns
returns c =
    message_enough _ _ c.if-r-heads.false c.if-r-need.false c.if-r-have.false c.if-r-list.false
