-- `state_calls::calls::bt_write_state` meets its contract: the words and the buffer of what the writer ensures. Assumes nothing.
use Rattle.call_words.proofs.Answers.{answered}
use Rattle.state_calls.proofs.calls.bt_write_state.Goals as goal

pub returns : goal.returns
returns c = answered _ _ _ _ _ c.encode.ensures c.write_words.ensures
