-- `receive_calls::answer::received_words` meets its contract: one case for each variant. Assumes nothing.
use Rattle.receive_calls.proofs.answer.received_words.Goals as goal

pub returns-in-Ok-Failed : goal.returns-in-Ok-Failed
returns-in-Ok-Failed c =
    let says = rw c.in-Ok-Failed.is at c.in-Ok-Failed.field-0-is in
    rw (rw says at c.in-Ok-Failed.is) c.refusal_words.ensures

pub returns-in-Err : goal.returns-in-Err
returns-in-Err c = rw c.in-Err.is c.refusal_words-in-Err.ensures
