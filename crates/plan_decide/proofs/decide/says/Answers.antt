-- `plan_decide::decide::says` meets its contract: the message's room comes first, then the session's lists. Assumes nothing.
use Rattle.rules.proofs.Cases.{handed_on}
use Rattle.rules.specs.declared.refusal.Refusal.TheVariants.{NoRoom}
use Rattle.session.proofs.MappedLaws.{mapped_ok, mapped_err}
use Rattle.plan_decide.proofs.DecideLaws.{small_drafted, message_short, lists_short, all_enough}
use Rattle.plan_decide.proofs.decide.says.Goals as goal

pub message_room-requires : goal.message_room-requires
message_room-requires c = rw c.stated-p.ensures (small_drafted _ _ _ _ c.requires)

pub returns-in_err-map_err : goal.returns-in_err-map_err
returns-in_err-map_err c =
    let w = mapped_err NoRoom _ c.in_err-map_err.ensures.cases in
    rw (handed_on c.from_residual.ensures.1, w.refusal) (message_short _ _ _ _ _ _ _ c.stated-p.ensures c.message_room.ensures _ w.is)

pub returns-in_err-map_err-2 : goal.returns-in_err-map_err-2
returns-in_err-map_err-2 c =
    let room = mapped_ok NoRoom _ c.in_ok-map_err.ensures.cases in
    let w = mapped_err NoRoom _ c.in_err-map_err-2.ensures.cases in
    rw (handed_on c.from_residual-in_err-map_err-2.ensures.1, w.refusal)
    (lists_short _ _ _ _ _ _ _ c.stated-p.ensures c.message_room.ensures room _ c.session_room.ensures _ w.is)

pub returns : goal.returns
returns c =
    let room = mapped_ok NoRoom _ c.in_ok-map_err.ensures.cases in
    let lists = mapped_ok NoRoom _ c.in_ok-map_err-2.ensures.cases in
    all_enough _ _ _ _ _ _ _ c.stated-p.ensures c.message_room.ensures room _ c.session_room.ensures _ lists c.planned_session.ensures
