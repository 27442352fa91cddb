-- `wire_calls::calls::bt_read_number` meets its contract: the words of what the reader ensures. Assumes nothing.
use mathlib.Core.Path.{ap, ◌∙◌}
use Rattle.wire_calls.specs.WireWords.{number_words}
use Rattle.wire_calls.proofs.calls.bt_read_number.Goals as goal

pub returns : goal.returns
returns c = c.number_words.ensures ∙ ap number_words c.leb128_u64.ensures
