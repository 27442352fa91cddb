-- `state_calls::calls::fresh_words` meets its contract: the words of what the library's calls ensure. Assumes nothing.
use mathlib.Core.Path.{ap, ◌∙◌}
use Rattle.call_words.specs.SessionWords.{session_words}
use Rattle.state_calls.proofs.calls.fresh_words.Goals as goal

pub returns-then-read_only : goal.returns-then-read_only
returns-then-read_only c = rw c.if-read_only.true (c.session_words.ensures ∙ ap session_words c.new_read_only.ensures)

pub returns : goal.returns
returns c = rw c.if-read_only.false (c.session_words-2.ensures ∙ ap session_words c.new.ensures)
