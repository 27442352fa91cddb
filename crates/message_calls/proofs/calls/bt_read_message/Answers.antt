-- `message_calls::calls::bt_read_message` meets its contract: the words and the lists of what the reader ensures. Assumes nothing.
use Rattle.message_calls.proofs.MessageLaws.{message_answered}
use Rattle.message_calls.proofs.calls.bt_read_message.Goals as goal

pub returns : goal.returns
returns c = message_answered _ _ _ _ _ _ _ _ _ c.decode.ensures c.decoded_words.ensures
