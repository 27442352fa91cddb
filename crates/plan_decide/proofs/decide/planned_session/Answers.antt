-- `plan_decide::decide::planned_session` meets its contract, field by field. Assumes nothing.
use mathlib.Core.Path.{refl}
use Rattle.plan_decide.proofs.decide.planned_session.Goals as goal

pub returns : goal.returns
returns c = refl
