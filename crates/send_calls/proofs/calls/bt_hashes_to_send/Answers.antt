-- `send_calls::calls::bt_hashes_to_send` meets its contract: the words and the buffer of what the writer ensures. Assumes nothing.
use Rattle.call_words.proofs.Answers.{answered}
use Rattle.send_calls.proofs.calls.bt_hashes_to_send.Goals as goal

pub returns : goal.returns
returns c = answered _ _ _ _ _ c.get_hashes_to_send.ensures c.write_words.ensures
