-- `settings_calls::calls::bt_check_settings` meets its contract: the words of what the check ensures. Assumes nothing.
use mathlib.Core.Path.{ap, ◌∙◌}
use Rattle.call_words.specs.Answer.{write_words}
use Rattle.settings_calls.proofs.calls.bt_check_settings.Goals as goal

pub returns : goal.returns
returns c = c.write_words.ensures ∙ ap write_words c.check_settings.ensures
