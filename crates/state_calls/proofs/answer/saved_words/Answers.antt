-- `state_calls::answer::saved_words` meets its contract: one case for each variant. Assumes nothing.
use Rattle.state_calls.proofs.answer.saved_words.Goals as goal

pub returns-in-Ok : goal.returns-in-Ok
returns-in-Ok c = rw c.in-Ok.is

pub returns-in-Err : goal.returns-in-Err
returns-in-Err c = rw c.in-Err.is c.refusal_words.ensures
