-- `bloom_calls::calls::bt_read_filter` meets its contract: the words of what the library's call ensures. Assumes nothing.
use mathlib.Core.Path.{ap, ◌∙◌}
use Rattle.bloom_calls.specs.BloomWords.{filter_words}
use Rattle.bloom_calls.proofs.calls.bt_read_filter.Goals as goal

pub returns : goal.returns
returns c = c.filter_words.ensures ∙ ap filter_words c.parse_counted.ensures
