-- `bloom_calls::calls::bt_build_filter` meets its contract: the words and the buffer of what the writer ensures. Assumes nothing.
use Rattle.call_words.proofs.Answers.{answered}
use Rattle.bloom_calls.proofs.calls.bt_build_filter.Goals as goal

pub returns : goal.returns
returns c = answered _ _ _ _ _ c.from_hashes.ensures c.write_words.ensures
