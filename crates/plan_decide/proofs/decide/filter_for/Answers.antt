-- `plan_decide::decide::filter_for` meets its contract: zeros where nothing is given, else the numbers with the size that the field has. Assumes nothing.
use Rattle.plan_decide.proofs.DecideLaws.{filter_some, filter_none}
use Rattle.plan_decide.proofs.decide.filter_for.Goals as goal

pub returns-then-not-gives : goal.returns-then-not-gives
returns-then-not-gives c = filter_none _ _ _ _ _ c.if-not-gives.true

pub returns : goal.returns
returns c = filter_some _ _ _ _ _ _ c.if-not-gives.false c.bits_capacity.ensures
