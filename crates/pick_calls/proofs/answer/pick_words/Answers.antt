-- `pick_calls::answer::pick_words` meets its contract: one case for each variant. Assumes nothing.
use Rattle.pick_calls.proofs.answer.pick_words.Goals as goal

pub returns-in-Err : goal.returns-in-Err
returns-in-Err c = rw c.in-Err.is c.refusal_words.ensures
