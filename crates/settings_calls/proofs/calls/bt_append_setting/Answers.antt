-- `settings_calls::calls::bt_append_setting` meets its contract: the words and the buffer of what the call ensures. Assumes nothing.
use Rattle.call_words.proofs.Answers.{answered}
use Rattle.settings_calls.proofs.calls.bt_append_setting.Goals as goal

pub returns : goal.returns
returns c = answered _ _ _ _ _ c.append_setting.ensures c.write_words.ensures
