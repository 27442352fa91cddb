-- `message_calls::message_words::version_of` meets its contract: 2, or another number. Assumes nothing.
use Rattle.message_calls.proofs.MessageLaws.{version_two, version_one}
use Rattle.message_calls.proofs.message_words.version_of.Goals as goal

pub returns-then-n-eq2 : goal.returns-then-n-eq2
returns-then-n-eq2 c = version_two _ c.if-n-eq2.true

pub returns : goal.returns
returns c = version_one _ c.if-n-eq2.false
