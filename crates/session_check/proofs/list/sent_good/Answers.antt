-- `session_check::list::sent_good` meets its contract: the limit is tested first, then the buffer, and then the order decides. Assumes nothing.
use mathlib.Core.Path.{sym, ◌∙◌}
use Rattle.session_check.proofs.GoodLaws.{sent_many, sent_short, sent_there}
use Rattle.session_check.proofs.list.sent_good.Goals as goal

pub returns-then-count-gt-SENT_HASHES : goal.returns-then-count-gt-SENT_HASHES
returns-then-count-gt-SENT_HASHES c = sym (sent_many _ _ c.if-count-gt-SENT_HASHES.true)

pub returns-then-bytes-count : goal.returns-then-bytes-count
returns-then-bytes-count c = sym (sent_short _ _ c.if-count-gt-SENT_HASHES.false c.if-bytes-count.true)

pub returns : goal.returns
returns c =
    c.ascending.ensures ∙ sym (sent_there _ _ c.if-count-gt-SENT_HASHES.false c.if-bytes-count.false)
