-- `plan_calls::answer::planned_words` meets its contract: one case for each variant. Assumes nothing.
use Rattle.plan_calls.proofs.answer.planned_words.Goals as goal

pub returns-in-Err : goal.returns-in-Err
returns-in-Err c = rw (c.in-Err.is, c.number.ensures, c.value.ensures)

pub returns-in-Ok-Reset : goal.returns-in-Ok-Reset
returns-in-Ok-Reset c =
    let said = rw c.in-Ok-Reset.is at c.in-Ok-Reset.field-0-is in
    rw (c.in-Ok-Reset.is, said) c.stated_words.ensures

pub returns-in-Ok-Says : goal.returns-in-Ok-Says
returns-in-Ok-Says c =
    let said = rw c.in-Ok-Says.is at c.in-Ok-Says.field-0-is in
    rw (c.in-Ok-Says.is, said) c.stated_words-in-Ok-Says.ensures
