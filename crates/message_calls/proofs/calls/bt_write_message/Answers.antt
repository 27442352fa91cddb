-- `message_calls::calls::bt_write_message` meets its contract: the words and the buffer of what the writer ensures, for the version and the section
-- that the words say. Assumes nothing.
use Rattle.message_calls.proofs.MessageLaws.{message_written}
use Rattle.message_calls.proofs.calls.bt_write_message.Goals as goal

pub returns : goal.returns
returns c =
    message_written _ _ _ _ _ _ _ _ _ _ _ _ _ _ c.version_of-v.ensures c.section_of-f.ensures c.encode.ensures c.write_words.ensures
