-- `table_calls::calls::bt_widen_rows` meets its contract: the words and the buffer of what the call ensures. Assumes nothing.
use Rattle.call_words.proofs.Answers.{answered}
use Rattle.table_calls.proofs.calls.bt_widen_rows.Goals as goal

pub returns : goal.returns
returns c = answered _ _ _ _ _ c.widen_rows.ensures c.write_words.ensures
