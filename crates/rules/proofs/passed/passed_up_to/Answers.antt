-- `rules::passed::passed_up_to` meets its contract: its tests are the definition's, one law for each. Assumes nothing.
use mathlib.Core.Path.{sym}
use Rattle.rules.proofs.PassedLaws.{up_to_long, up_to_cut, up_to_whole}
use Rattle.rules.proofs.passed.passed_up_to.Goals as goal

pub returns-then-most-bytes : goal.returns-then-most-bytes
returns-then-most-bytes c = sym (up_to_long _ _ c.if-most-bytes.true)

pub returns-then-bytes-ne0 : goal.returns-then-bytes-ne0
returns-then-bytes-ne0 c = sym (up_to_cut _ _ c.if-most-bytes.false c.if-bytes-ne0.true)

pub returns : goal.returns
returns c = sym (up_to_whole _ _ c.if-most-bytes.false c.if-bytes-ne0.false)
