-- `state_calls::answer::good_words` meets its contract: one case for each way. Assumes nothing.
use Rattle.state_calls.proofs.answer.good_words.Goals as goal

pub returns : goal.returns
returns c = rw c.if-good.false c.refusal_words.ensures
