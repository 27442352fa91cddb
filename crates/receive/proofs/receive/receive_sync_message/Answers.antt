-- `receive::receive::receive_sync_message` meets its contract: a test that fails is the answer. Assumes nothing.
use mathlib.Core.Path.{sym}
use Rattle.receive.proofs.CallLaws.{refused_called, accepted}
use Rattle.rules.proofs.Cases.{handed_on}
use Rattle.receive.proofs.receive.receive_sync_message.Goals as goal

pub receive_checked-requires : goal.receive_checked-requires
receive_checked-requires c =
    accepted _ _ _ _ _ _ _ _ (sym c.in_ok-rows.ensures)

pub returns-in_err-rows : goal.returns-in_err-rows
returns-in_err-rows c =
    rw (handed_on c.from_residual.ensures.1)
    (refused_called _ _ _ _ _ _ _ _ (sym c.in_err-rows.ensures))
