-- `receive_decide::decide::taken` meets its contract: one law for each kind of answer (DecideLaws). Assumes nothing.
use Rattle.receive_decide.proofs.DecideLaws.{took_taken, failed_left, refused_left}
use Rattle.receive_decide.proofs.decide.taken.Goals as goal

pub returns-in-Ok-Took : goal.returns-in-Ok-Took
returns-in-Ok-Took c =
    let says = rw c.in-Ok-Took.is at c.in-Ok-Took.field-0-is in
    took_taken _ _ (rw says at c.in-Ok-Took.is)

pub returns-in-Ok-Failed : goal.returns-in-Ok-Failed
returns-in-Ok-Failed c =
    let says = rw c.in-Ok-Failed.is at c.in-Ok-Failed.field-0-is in
    failed_left _ _ (rw says at c.in-Ok-Failed.is)

pub returns-in-Err : goal.returns-in-Err
returns-in-Err c = refused_left _ _ c.in-Err.is
