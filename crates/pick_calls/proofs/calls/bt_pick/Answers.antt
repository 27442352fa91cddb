-- `pick_calls::calls::bt_pick` meets its contract: the words and the buffer of what the planner ensures. Assumes nothing.
use Rattle.call_words.proofs.Answers.{answered}
use Rattle.pick_calls.proofs.calls.bt_pick.Goals as goal

pub returns : goal.returns
returns c = answered _ _ _ _ _ c.pick.ensures c.write_words.ensures
