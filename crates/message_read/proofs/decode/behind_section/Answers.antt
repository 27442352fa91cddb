-- `message_read::decode::behind_section` meets its contract: none without a section, else what is left. Assumes nothing.
use mathlib.Core.Path.{sym, ◌∙◌}
use Rattle.message_read.proofs.IgnoredLaws.{told_absent, told_present}
use Rattle.message_read.proofs.decode.behind_section.Goals as goal

pub returns-in-None : goal.returns-in-None
returns-in-None c = sym (told_absent _ _ _ c.in-None.is)

pub returns-in-Some : goal.returns-in-Some
returns-in-Some c = c.left.ensures ∙ sym (told_present _ _ _ _ c.in-Some.is)
