-- `counts_calls::calls::bt_count_capture` meets its contract: the words of what counting ensures. Assumes nothing.
use mathlib.Core.Path.{ap, ◌∙◌}
use Rattle.counts_calls.specs.CountWords.{counted_words}
use Rattle.counts_calls.proofs.calls.bt_count_capture.Goals as goal

pub returns : goal.returns
returns c = c.counted_words.ensures ∙ ap counted_words c.count_capture.ensures
