-- `counts_calls::answer::totals_after` meets its contract: one case for each variant. Assumes nothing.
use Rattle.counts_calls.proofs.answer.totals_after.Goals as goal

pub returns-in-Ok : goal.returns-in-Ok
returns-in-Ok c = rw c.in-Ok.is
