-- `message_calls::message_words::decoded_words` meets its contract: one case for each variant. Assumes nothing.
use Rattle.message_calls.proofs.message_words.decoded_words.Goals as goal

pub returns-in-Ok : goal.returns-in-Ok
returns-in-Ok c =
    rw (c.in-Ok.is, c.version_word.ensures, c.section_word.ensures)

pub returns-in-Err : goal.returns-in-Err
returns-in-Err c = rw (c.in-Err.is, c.number.ensures, c.value.ensures)
