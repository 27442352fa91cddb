-- `pick_calls::calls::bt_check_pick` meets its contract: the words of what the check ensures. Assumes nothing.
use mathlib.Core.Path.{ap, ◌∙◌}
use Rattle.pick_calls.specs.PickWords.{pick_words}
use Rattle.pick_calls.proofs.calls.bt_check_pick.Goals as goal

pub returns : goal.returns
returns c = c.pick_words.ensures ∙ ap pick_words c.check_pick.ensures
