-- `session_check::list::list_good` meets its contract: the limit is tested first, and else the buffer decides. Assumes nothing.
use mathlib.Core.Path.{sym}
use Rattle.session_check.proofs.GoodLaws.{list_many, list_where}
use Rattle.session_check.proofs.list.list_good.Goals as goal

pub returns-then-count-gt-HASHES : goal.returns-then-count-gt-HASHES
returns-then-count-gt-HASHES c = sym (list_many _ _ c.if-count-gt-HASHES.true)

pub returns : goal.returns
returns c = sym (list_where _ _ c.if-count-gt-HASHES.false)
