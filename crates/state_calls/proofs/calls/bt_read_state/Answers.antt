-- `state_calls::calls::bt_read_state` meets its contract: the words, the session and the buffer of what the reader ensures. Assumes nothing.
use Rattle.state_calls.proofs.StateCalls.{state_read}
use Rattle.state_calls.proofs.calls.bt_read_state.Goals as goal

pub returns : goal.returns
returns c = state_read _ _ _ _ _ _ _ c.decode-loaded.ensures c.saved_session.ensures c.saved_words.ensures
