-- `pick::goes::goes_now` meets its contract: its tests are the definition's, the cheaper first. Assumes nothing.
use borrow.Author.Tests.{lt-leb, le-leb}
use Rattle.pick.proofs.GoesLaws.{goes_unlisted, goes_large, goes_small}
use Rattle.pick.proofs.goes.goes_now.Goals as goal

pub returns-then-not-listed-i : goal.returns-then-not-listed-i
returns-then-not-listed-i c = goes_unlisted _ _ _ _ _ _ c.if-not-listed-i.true

pub returns-then-left-size : goal.returns-then-left-size
returns-then-left-size c = goes_large _ _ _ _ _ _ c.if-not-listed-i.false (lt-leb _ _ c.if-left-size.true)

pub returns : goal.returns
returns c =
    goes_small _ _ _ _ _ _ c.if-not-listed-i.false (le-leb _ _ c.if-left-size.false) _ c.goes_with.ensures
