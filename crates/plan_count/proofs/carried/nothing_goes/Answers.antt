-- `plan_count::carried::nothing_goes` meets its contract: the tests in turn (CountLaws). Assumes nothing.
use mathlib.Core.Path.{sym, ◌∙◌}
use Rattle.plan_count.proofs.CountLaws.{ok_is_fine}
use Rattle.plan_count.proofs.carried.nothing_goes.Goals as goal

pub returns-then-is_ok : goal.returns-then-is_ok
returns-then-is_ok c = rw (sym (ok_is_fine c.args.picked) ∙ sym c.is_ok.ensures.value ∙ c.if-is_ok.true)
