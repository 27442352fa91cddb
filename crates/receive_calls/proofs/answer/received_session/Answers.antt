-- `receive_calls::answer::received_session` meets its contract: one case for each variant. Assumes nothing.
use Rattle.receive_calls.proofs.answer.received_session.Goals as goal

pub returns-in-Ok-Took : goal.returns-in-Ok-Took
returns-in-Ok-Took c =
    let says = rw c.in-Ok-Took.is at c.in-Ok-Took.field-0-is in
    rw (rw says at c.in-Ok-Took.is) c.session_words.ensures

pub returns-in-Ok-Failed : goal.returns-in-Ok-Failed
returns-in-Ok-Failed c =
    let says = rw c.in-Ok-Failed.is at c.in-Ok-Failed.field-0-is in
    rw (rw says at c.in-Ok-Failed.is) c.session_words-in-Ok-Failed.ensures
