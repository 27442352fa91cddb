-- `wire_calls::calls::bt_read_prefixed` meets its contract: the words of what the reader ensures. Assumes nothing.
use mathlib.Core.Path.{ap, ◌∙◌}
use Rattle.wire_calls.specs.WireWords.{prefixed_words}
use Rattle.wire_calls.proofs.calls.bt_read_prefixed.Goals as goal

pub returns : goal.returns
returns c = c.prefixed_words.ensures ∙ ap prefixed_words c.length_prefixed_bytes.ensures
