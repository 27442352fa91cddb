-- `state_calls::calls::bt_fresh_read_only` meets its contract: it is the words' own. Assumes nothing.
use Rattle.state_calls.proofs.calls.bt_fresh_read_only.Goals as goal

pub returns : goal.returns
returns c = c.fresh_words.ensures
