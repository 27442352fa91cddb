-- `wire_calls::calls::bt_read_hashes` meets its contract: the words of what the reader ensures. Assumes nothing.
use mathlib.Core.Path.{ap, ◌∙◌}
use Rattle.wire_calls.specs.WireWords.{hash_list_words}
use Rattle.wire_calls.proofs.calls.bt_read_hashes.Goals as goal

pub returns : goal.returns
returns c = c.hash_list_words.ensures ∙ ap hash_list_words c.length_prefixed_hashes.ensures
