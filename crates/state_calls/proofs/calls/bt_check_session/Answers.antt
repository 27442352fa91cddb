-- `state_calls::calls::bt_check_session` meets its contract: the words of what the library's call ensures. Assumes nothing.
use mathlib.Core.Path.{ap, ◌∙◌}
use Rattle.state_calls.specs.StateCalls.{good_words}
use Rattle.state_calls.proofs.calls.bt_check_session.Goals as goal

pub returns : goal.returns
returns c = c.good_words.ensures ∙ ap good_words (rw c.session_of.ensures at c.session_good.ensures)
