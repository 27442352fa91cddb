-- `bloom_calls::answer::contained_words` meets its contract: one case for each variant. Assumes nothing.
use Rattle.bloom_calls.proofs.answer.contained_words.Goals as goal

pub returns-in-Err : goal.returns-in-Err
returns-in-Err c = rw c.in-Err.is c.refusal_words.ensures
