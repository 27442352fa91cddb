-- `receive_make::make::kept_hashes` meets its contract. Assumes nothing.
use Rattle.receive_make.proofs.MakeLaws.{kept_none, kept_all}
use Rattle.receive_make.proofs.make.kept_hashes.Goals as goal

pub returns-then-heads-eq0 : goal.returns-then-heads-eq0
returns-then-heads-eq0 c = kept_none _ _ c.if-heads-eq0.true

pub returns : goal.returns
returns c = kept_all _ _ c.if-heads-eq0.false
