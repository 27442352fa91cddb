-- `session_check::list::heard_good` meets its contract: what is absent is good, and else the count decides. Assumes nothing.
use mathlib.Core.Path.{sym, ◌∙◌}
use Rattle.session_check.proofs.GoodLaws.{heard_nothing, heard_count_lem}
use Rattle.session_check.proofs.list.heard_good.Goals as goal

pub returns-in-None : goal.returns-in-None
returns-in-None c = sym (heard_nothing _ _ c.in-None.is)

pub returns-in-Some : goal.returns-in-Some
returns-in-Some c = c.list_good.ensures ∙ sym (heard_count_lem _ _ _ c.in-Some.is)
