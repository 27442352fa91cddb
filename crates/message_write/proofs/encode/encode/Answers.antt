-- `message_write::encode::encode` meets its contract: every test but that of the room is made with the size, then the room decides, and then all is put.
-- Assumes nothing.
use mathlib.Core.Path.{sym}
use native.Mathlib.Omega.{arith}
use Rattle.rules.proofs.Cases.{handed_on}
use Rattle.message_size.proofs.WriteLaws.{ready, written_short, written_all, written_refused}
use Rattle.message_write.proofs.encode.encode.Goals as goal

pub returns-then-out-size : goal.returns-then-out-size
returns-then-out-size c =
    written_short _ _ (sym (c.in_ok-size.ensures _)) _ c.if-out-size.true

pub put_message-requires : goal.put_message-requires
put_message-requires c =
    let r = ready _ _ (sym (c.in_ok-size.ensures _)) in
    (r.output, omega (arith, r.long, c.if-out-size.false))

pub returns : goal.returns
returns c =
    written_all _ _ (sym (c.in_ok-size.ensures _)) _ _ c.if-out-size.false c.put_message.ensures

pub returns-in_err-size : goal.returns-in_err-size
returns-in_err-size c = rw (handed_on c.from_residual.ensures.1) (written_refused _ _ _ (sym (c.in_err-size.ensures _)))
