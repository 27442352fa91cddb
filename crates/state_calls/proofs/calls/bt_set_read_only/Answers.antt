-- `state_calls::calls::bt_set_read_only` meets its contract: the words of what the library's call ensures. Assumes nothing.
use mathlib.Core.Path.{ap, ◌∙◌}
use Rattle.call_words.specs.SessionWords.{session_words}
use Rattle.state_calls.proofs.calls.bt_set_read_only.Goals as goal

pub returns : goal.returns
returns c = c.session_words.ensures ∙ ap session_words (rw c.session_of.ensures at c.set_read_only.ensures)
