-- `table_check::repeat::first_repeat` meets its contract: the least of what is found so far and what is found along the rest of the order stays the
-- same from turn to turn (RepeatLaws). Assumes nothing.
use mathlib.Core.Path.{sym, ◌∙◌}
use native.Mathlib.Omega.{arith}
use Rattle.table_check.proofs.RepeatLaws.{seek_starts, seek_on, seek_ends}
use Rattle.table_check.proofs.repeat.first_repeat.Goals as goal

pub loop-k-init : goal.loop-k-init
loop-k-init c = λ o. seek_starts _ _ _ _ o

pub loop-k-preserved : goal.loop-k-preserved
loop-k-preserved c = λ o. sym (seek_on _ _ _ _ o _ _ _ (omega arith) c.or_repeat-first.ensures) ∙ c.loop-k.invariant o

pub returns : goal.returns
returns c = sym (seek_ends _ _ _ _ c.requires _ _ (omega arith)) ∙ c.loop-k.invariant c.requires
