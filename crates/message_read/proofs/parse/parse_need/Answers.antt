-- `message_read::parse::parse_need` meets its contract: the need is refused, or the lists follow it. Assumes nothing.
use mathlib.Core.Path.{sym}
use Rattle.rules.proofs.Cases.{handed_on}
use Rattle.message_read.proofs.ReadLaws.{need_gone, need_lists}
use Rattle.message_read.proofs.parse.parse_need.Goals as goal

pub returns-in_err-need : goal.returns-in_err-need
returns-in_err-need c = rw (handed_on c.from_residual.ensures.1) (sym (need_gone _ _ _ _ _ (sym c.in_err-need.ensures)))

pub returns : goal.returns
returns c = rw (need_lists _ _ _ _ _ _ (sym c.in_ok-need.ensures)) c.parse_lists.ensures
