-- `receive_make::make::last_sent_after` meets its contract. Assumes nothing.
use Rattle.receive_make.proofs.MakeLaws.{last_none, last_told, last_stays}
use Rattle.receive_make.proofs.make.last_sent_after.Goals as goal

pub returns-then-heads-eq0 : goal.returns-then-heads-eq0
returns-then-heads-eq0 c = last_none _ _ _ c.if-heads-eq0.true

pub returns-then-told-gt0 : goal.returns-then-told-gt0
returns-then-told-gt0 c = last_told _ _ _ c.if-heads-eq0.false c.if-told-gt0.true

pub returns : goal.returns
returns c = last_stays _ _ _ c.if-heads-eq0.false c.if-told-gt0.false
