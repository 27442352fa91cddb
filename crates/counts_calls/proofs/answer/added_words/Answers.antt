-- `counts_calls::answer::added_words` meets its contract: one case for each variant. Assumes nothing.
use Rattle.counts_calls.proofs.answer.added_words.Goals as goal

pub returns-in-Err : goal.returns-in-Err
returns-in-Err c = rw c.in-Err.is c.refusal_words.ensures
