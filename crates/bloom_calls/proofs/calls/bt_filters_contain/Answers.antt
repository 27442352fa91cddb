-- `bloom_calls::calls::bt_filters_contain` meets its contract: the words of what the library's call ensures. Assumes nothing.
use mathlib.Core.Path.{ap, ◌∙◌}
use Rattle.bloom_calls.specs.BloomWords.{contained_words}
use Rattle.bloom_calls.proofs.calls.bt_filters_contain.Goals as goal

pub returns : goal.returns
returns c = c.contained_words.ensures ∙ ap contained_words c.filters_contain.ensures
