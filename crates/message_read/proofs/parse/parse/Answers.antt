-- `message_read::parse::parse` meets its contract: the first stage is refused, or the need follows it. Assumes nothing.
use mathlib.Core.Path.{sym, ◌∙◌}
use Rattle.rules.proofs.Cases.{handed_on}
use Rattle.message_read.proofs.ReadLaws.{message_gone, message_need}
use Rattle.message_read.proofs.parse.parse.Goals as goal

pub returns-in_err-version : goal.returns-in_err-version
returns-in_err-version c = rw (handed_on c.from_residual.ensures.1) (sym (message_gone _ _ (sym c.in_err-version.ensures)))

pub returns : goal.returns
returns c = c.parse_need.ensures ∙ sym (message_need _ _ _ _ (sym c.in_ok-version.ensures))
