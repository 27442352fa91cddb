-- `table_calls::calls::bt_heads` meets its contract: the words and the buffer of what the call ensures. Assumes nothing.
use Rattle.call_words.proofs.Answers.{answered}
use Rattle.table_calls.proofs.calls.bt_heads.Goals as goal

pub returns : goal.returns
returns c = answered _ _ _ _ _ c.heads.ensures c.write_words.ensures
