-- `table_calls::calls::bt_check_tables` meets its contract: the words of what the check ensures. Assumes nothing.
use mathlib.Core.Path.{ap, ◌∙◌}
use Rattle.call_words.specs.Answer.{write_words}
use Rattle.table_calls.proofs.calls.bt_check_tables.Goals as goal

pub returns : goal.returns
returns c = c.write_words.ensures ∙ ap write_words c.check_tables.ensures
