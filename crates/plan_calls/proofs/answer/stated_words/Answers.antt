-- `plan_calls::answer::stated_words` meets its contract: word for word. Assumes nothing.
use Rattle.plan_calls.proofs.PlanWordLaws.{stated_made}
use Rattle.plan_calls.proofs.answer.stated_words.Goals as goal

pub returns : goal.returns
returns c = stated_made _ c.args.p _ c.version_number.ensures
