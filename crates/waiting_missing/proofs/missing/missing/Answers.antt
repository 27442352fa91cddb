-- `waiting_missing::missing::missing` meets its contract: the change table's refusal or its index's, or what follows good ones, the rows being all those
-- found. Assumes nothing.
use mathlib.Core.Path.{sym}
use Rattle.table_index.proofs.CheckLaws.{checked_indexed}
use Rattle.waiting_missing.proofs.MissingCalls.{call_refused, call_good}
use Rattle.rules.proofs.Cases.{handed_on}
use Rattle.waiting_missing.proofs.missing.missing.Goals as goal

pub missing_beside-requires : goal.missing_beside-requires
missing_beside-requires c =
    checked_indexed _ _ _ (sym c.in_ok-n.ensures)

pub returns-in_err-n : goal.returns-in_err-n
returns-in_err-n c = rw (handed_on c.from_residual.ensures.1) (call_refused _ _ _ _ _ _ (sym c.in_err-n.ensures))

pub returns : goal.returns
returns c =
    call_good _ _ _ _ _ _ (sym c.in_ok-n.ensures) c.missing_beside.ensures
