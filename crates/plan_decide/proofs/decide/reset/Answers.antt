-- `plan_decide::decide::reset` meets its contract: the reset, or the first buffer that is too short. Assumes nothing.
use Rattle.rules.proofs.Cases.{handed_on}
use Rattle.rules.specs.declared.refusal.Refusal.TheVariants.{NoRoom}
use Rattle.session.proofs.MappedLaws.{mapped_ok, mapped_err}
use Rattle.plan_decide.proofs.DecideLaws.{small_reset, reset_short, reset_enough}
use Rattle.plan_decide.proofs.decide.reset.Goals as goal

pub message_room-requires : goal.message_room-requires
message_room-requires c = rw c.reset_stated-p.ensures (small_reset _ c.requires)

pub returns-in_err-map_err : goal.returns-in_err-map_err
returns-in_err-map_err c =
    let w = mapped_err NoRoom _ c.in_err-map_err.ensures.cases in
    rw (handed_on c.from_residual.ensures.1, w.refusal) (reset_short _ _ _ _ c.reset_stated-p.ensures c.message_room.ensures _ w.is)

pub returns : goal.returns
returns c =
    reset_enough _ _ _ _ c.reset_stated-p.ensures c.message_room.ensures (mapped_ok NoRoom _ c.in_ok-map_err.ensures.cases)
