-- `message_calls::calls::bt_peek_heads` meets its contract: the words and the buffer of what the reader of heads ensures. Assumes nothing.
use Rattle.message_calls.proofs.MessageLaws.{peek_answered}
use Rattle.message_calls.proofs.calls.bt_peek_heads.Goals as goal

pub returns : goal.returns
returns c = peek_answered _ _ _ _ _ c.peek_heads.ensures c.peeked_words.ensures
