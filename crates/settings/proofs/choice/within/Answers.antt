-- `settings::choice::within` meets its contract: both ends are tested. Assumes nothing.
use borrow.Author.Tests.{lt-leb, le-leb}
use Rattle.settings.proofs.choice.within.Goals as goal

pub returns-then-number-lt1 : goal.returns-then-number-lt1
returns-then-number-lt1 c = rw (lt-leb _ _ c.if-number-lt1.true)

pub returns : goal.returns
returns c = rw (le-leb _ _ c.if-number-lt1.false)
