-- `plan_decide::decide::reset_stated` meets its contract: its one flag is that resets are understood. Assumes nothing.
use Rattle.plan_decide.proofs.DecideLaws.{understands, reset_is}
use Rattle.plan_decide.proofs.decide.reset_stated.Goals as goal

pub returns : goal.returns
returns c = reset_is _ _ (understands _ _ c.new.ensures c.set.ensures)
