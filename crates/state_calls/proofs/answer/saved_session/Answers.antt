-- `state_calls::answer::saved_session` meets its contract: one case for each variant. Assumes nothing.
use Rattle.state_calls.proofs.answer.saved_session.Goals as goal

pub returns-in-Ok : goal.returns-in-Ok
returns-in-Ok c = rw c.in-Ok.is c.session_words.ensures
