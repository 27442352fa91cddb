-- `call_words::words::heard_of` meets its contract: one law for each way. Assumes nothing.
use Rattle.call_words.proofs.WordLaws.{heard_absent, heard_there}
use Rattle.call_words.proofs.words.heard_of.Goals as goal

pub returns-then-present-eq0 : goal.returns-then-present-eq0
returns-then-present-eq0 c = heard_absent _ _ c.if-present-eq0.true

pub returns : goal.returns
returns c = heard_there _ _ c.if-present-eq0.false
