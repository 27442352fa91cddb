-- `message_calls::message_words::section_of` meets its contract: a byte, or a greater number. Assumes nothing.
use Rattle.message_calls.proofs.MessageLaws.{section_there, section_none}
use Rattle.message_calls.proofs.message_words.section_of.Goals as goal

pub returns-then-n-lt256 : goal.returns-then-n-lt256
returns-then-n-lt256 c = section_there _ c.if-n-lt256.true

pub returns : goal.returns
returns c = section_none _ c.if-n-lt256.false
