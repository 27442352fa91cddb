-- `call_words::answer::refusal_words` meets its contract: the number and the value that the refusal's methods ensure. Assumes nothing.
use Rattle.call_words.proofs.answer.refusal_words.Goals as goal

pub returns : goal.returns
returns c = rw (c.number.ensures, c.value.ensures)
