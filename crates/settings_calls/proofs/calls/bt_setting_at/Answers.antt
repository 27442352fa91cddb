-- `settings_calls::calls::bt_setting_at` meets its contract: the words of what asking ensures. Assumes nothing.
use mathlib.Core.Path.{ap, ◌∙◌}
use Rattle.settings_calls.specs.SettingWords.{setting_words}
use Rattle.settings_calls.proofs.calls.bt_setting_at.Goals as goal

pub returns : goal.returns
returns c = c.setting_words.ensures ∙ ap setting_words c.setting_at.ensures
