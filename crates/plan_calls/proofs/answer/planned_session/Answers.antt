-- `plan_calls::answer::planned_session` meets its contract: one case for each variant. Assumes nothing.
use Rattle.plan_calls.proofs.answer.planned_session.Goals as goal

pub returns-in-Ok-Says : goal.returns-in-Ok-Says
returns-in-Ok-Says c =
    let said = rw c.in-Ok-Says.is at c.in-Ok-Says.field-0-is in
    rw (c.in-Ok-Says.is, said) c.session_words.ensures
